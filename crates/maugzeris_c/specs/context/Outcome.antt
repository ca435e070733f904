-- What C is told of a call.
use Rattle.std.specs.Prelude.{◌≡◌, ℕ, Result, Ok, Err}
use Rattle.std.specs.Result.{result_unwrap_or}
use Rattle.maugzeris_c.specs.declared.context.fault.Fault.{Fault}
use Rattle.maugzeris_c.specs.declared.context.fault.Fault.TheVariants.{Refused, Overflow, OutOfMemory, NotTaken}
use Rattle.maugzeris_c.specs.declared.context.fault.Fault.TheVariants.{Wrong, NoRoom}

-- the status of a call that is not done
abbrev pub fault_status : Fault → ℕ
fault_status (Refused status) = status.0
fault_status Overflow = 8
fault_status OutOfMemory = 9
fault_status NotTaken = 10
fault_status Wrong = 11
fault_status NoRoom = 12

-- the status of a call
abbrev pub status_of : {X : Type 0} → Result X Fault → ℕ
status_of (Ok x) = 0
status_of (Err fault) = fault_status fault

-- the call comes to something that has this status
abbrev pub Ends : {X : Type 0} → (status : ℕ) → (Comes : Result X Fault → Type 0) → Type 0
Ends {X} status Comes = (done : Result X Fault) × (status ≡ status_of done) × Comes done

-- the same, and where it is done the caller's number is what it tells, and else as before
abbrev pub Tells : {X : Type 0} → (status : ℕ) → (before after : X) → (Comes : Result X Fault → Type 0) → Type 0
Tells status before after Comes = Ends status (λ done. (after ≡ result_unwrap_or done before) × Comes done)
