-- Kinds by their codes (`Codes`): each code belongs to one kind, and its parts determine the kind.
pub mod Codes
