-- Names (`Texts`): printable bytes and bare names are texts.
pub mod Texts
