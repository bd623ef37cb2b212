mod Agreeing
mod Filtering
mod Keeping
mod Marking
mod Portions
mod Talking
mod Texts
