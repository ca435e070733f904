mod SaidNames
mod ReadNames
mod ReadTrees
mod TreeSizes
mod ReadAgain
