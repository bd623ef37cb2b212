mod Reading
mod Places
mod Tables
