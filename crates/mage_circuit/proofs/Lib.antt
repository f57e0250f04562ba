mod Loops
mod Ends
mod Moving
mod Multiplying
mod Dividing
mod Counting
mod Lending
