-- Access lists: what is read of the bytes (`Reading`), and what the entries grant a user (`Granting`).
pub mod Reading
pub mod Granting
