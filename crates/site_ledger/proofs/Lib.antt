pub mod Crashes
