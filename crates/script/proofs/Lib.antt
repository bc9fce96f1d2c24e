mod Cutting
mod Entered
mod Listing
mod Naming
mod Numbers
mod Shown
mod Spelling
