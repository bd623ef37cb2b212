mod OwnHosts
mod Appended
mod Named
