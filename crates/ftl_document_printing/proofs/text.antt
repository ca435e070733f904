mod Fronts
mod SpelledDocument
