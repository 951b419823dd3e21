mod Common
mod reading
mod space
mod Examples
