mod Noting
mod Following
