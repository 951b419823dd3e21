pub mod Rights
pub mod Modes
pub mod AccessLists
pub mod Access
pub mod Narrowing
pub mod LogRights
pub mod Laws
