mod KidLists
mod InputFields
mod WriterPlaces
mod Turns
mod Attributes
