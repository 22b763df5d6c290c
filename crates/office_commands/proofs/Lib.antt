mod ServeEnds
mod ServedEnds
mod Blaming
mod Coming
mod Ended
mod FirstLook
mod Spelled
