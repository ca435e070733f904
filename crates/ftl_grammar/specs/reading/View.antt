-- What a reader ensures whose result contracts see through a view.
use Rattle.std.specs.Prelude.{◌≡◌, ◌≢◌, Result, Ok, Err}
use Rattle.ftl_tokens.specs.declared.reading.fault.ReadFault.{ReadFault}
use Rattle.ftl_tokens.specs.declared.reading.fault.ReadFault.TheVariants.{OutOfMemory}
use Rattle.ftl_tokens.specs.reading.Reader.{Tokens, ReadResult}

-- the result is the reader's, seen through view
abbrev pub ReadsAs : {A X : Type 0} → (X → A) → ReadResult A → Result X ReadFault → Tokens → Type 0
ReadsAs view outcome (Ok x) left = outcome ≡ Ok (view x, left)
ReadsAs view outcome (Err e) left = e ≢ OutOfMemory → outcome ≡ Err left
