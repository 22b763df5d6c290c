mod Both
mod One
mod SingleExchanges
