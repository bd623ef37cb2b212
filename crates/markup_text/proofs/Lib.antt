mod LetterSteps
mod Codes
mod Plain
mod ReadBack
