mod numbering
