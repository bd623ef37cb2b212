pub mod Prefixes
pub mod Adding
pub mod Shows
pub mod Spared
pub mod Turning
pub mod PublishLaws
pub mod Watching
