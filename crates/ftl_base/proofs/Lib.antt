mod Exact
mod Held
mod RowLemmas
mod RowsNow
