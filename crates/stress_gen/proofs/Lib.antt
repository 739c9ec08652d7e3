mod Rows
mod Filling
mod Files
