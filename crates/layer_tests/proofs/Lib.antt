mod calls
