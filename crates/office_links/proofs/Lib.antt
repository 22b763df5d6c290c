mod Taking
mod Writing
