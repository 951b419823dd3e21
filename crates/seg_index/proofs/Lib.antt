mod Common
mod entries
pub mod Laws
unfoldable pub use Common.*
pub use keys.NameFronts.*
pub use entries.HeapChanges.*
pub use keys.Order.*
pub use entries.Entries.*
pub use entries.Frame.*
pub use entries.Sorted.*
pub use entries.Changes.*
