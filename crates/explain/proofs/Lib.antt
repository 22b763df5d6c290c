mod Step
mod Lists
mod Just
