mod SeatedLiving
mod OneUnits
mod UnitsEnds
