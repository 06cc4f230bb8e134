mod Alone
mod Counted
mod Formed
mod Levelling
mod Listed
mod Ended
mod Printed
mod Spaced
