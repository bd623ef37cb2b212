mod Counted
mod Stamps
mod Reporting
mod Pulling
