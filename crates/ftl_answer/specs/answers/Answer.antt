-- Answers: a status and a text.
use Rattle.std.specs.Prelude.{ℕ, List, ◌++◌, codes}

-- the status to end with, and what is written
pub record Answer : Type 0 where
  pub status : ℕ
  pub text : List ℕ

-- this text, with this status
abbrev pub answer : (status : ℕ) → List ℕ → Answer
answer status text = record { status = status; text = text }

-- one line and its line feed
abbrev pub refused : (status : ℕ) → (line : List ℕ) → Answer
refused status line = answer status (line ++ codes "\n")
