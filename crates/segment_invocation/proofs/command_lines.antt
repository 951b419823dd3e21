-- Command lines: those that are always understood (`AllUnderstood`), and what the parser makes of each.
pub mod AllUnderstood
pub mod Subcommands
pub mod PlainArguments
pub mod Settings
pub mod Turns
