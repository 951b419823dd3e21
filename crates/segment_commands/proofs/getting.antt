-- Values: what two calls find, one after the other (`Found`).
pub mod Found
