mod Listed
mod Saturated
