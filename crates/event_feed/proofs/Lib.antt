pub mod LinesRead
mod Moving
mod Feeding
mod Progressing
