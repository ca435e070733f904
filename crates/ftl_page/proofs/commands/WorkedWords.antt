-- Words that were typed out by hand, by what `clap` makes of them.
use Rattle.std.proofs.Common.{◌≡◌, [], ◌∷◌, None, Some, codes, refl}
use Rattle.clap.proofs.OnLiterals.{clap_on_literals}
use Rattle.ftl_page.specs.commands.Commands.{command_of}
use Rattle.ftl_page.specs.declared.commands.command.Command.TheVariants as command
use Rattle.ftl_page.specs.workers.Solvings.{solving}

pub is_run_alone : command_of (codes "run" ∷ []) ≡ Some (command.Run (solving 1 64))
unfolding clap_on_literals
is_run_alone = refl

pub is_workers : command_of (codes "run" ∷ codes "--workers" ∷ codes "4" ∷ []) ≡ Some (command.Run (solving 4 64))
unfolding clap_on_literals
is_workers = refl

pub is_equals : command_of (codes "run" ∷ codes "--workers=64" ∷ codes "--grain=1" ∷ []) ≡ Some (command.Run (solving 64 1))
unfolding clap_on_literals
is_equals = refl

pub is_zeros : command_of (codes "run" ∷ codes "--grain" ∷ codes "0000063" ∷ []) ≡ Some (command.Run (solving 1 63))
unfolding clap_on_literals
is_zeros = refl

pub is_largest : command_of (codes "run" ∷ codes "--grain" ∷ codes "1048576" ∷ []) ≡ Some (command.Run (solving 1 1048576))
unfolding clap_on_literals
is_largest = refl

pub is_dashes : command_of (codes "run" ∷ codes "--" ∷ []) ≡ Some (command.Run (solving 1 64))
unfolding clap_on_literals
is_dashes = refl

pub is_check : command_of (codes "check" ∷ []) ≡ Some (command.Check)
unfolding clap_on_literals
is_check = refl

pub is_schedule : command_of (codes "schedule" ∷ []) ≡ Some (command.Schedule)
unfolding clap_on_literals
is_schedule = refl

pub is_explain : command_of (codes "explain" ∷ []) ≡ Some (command.Explain)
unfolding clap_on_literals
is_explain = refl

pub is_demand : command_of (codes "demand" ∷ []) ≡ Some (command.Demand)
unfolding clap_on_literals
is_demand = refl

pub is_dashes_of_demand : command_of (codes "demand" ∷ codes "--" ∷ []) ≡ Some (command.Demand)
unfolding clap_on_literals
is_dashes_of_demand = refl

pub is_edit : command_of (codes "edit" ∷ []) ≡ Some (command.Edit (solving 1 64))
unfolding clap_on_literals
is_edit = refl

pub is_workers_of_edit :
    command_of (codes "edit" ∷ codes "--workers" ∷ codes "8" ∷ codes "--grain=1" ∷ []) ≡ Some (command.Edit (solving 8 1))
unfolding clap_on_literals
is_workers_of_edit = refl

pub is_sample : command_of (codes "sample" ∷ codes "8" ∷ []) ≡ Some (command.Sample 8 (codes "flow") (solving 1 64))
unfolding clap_on_literals
is_sample = refl

pub is_sample_of : command_of (codes "sample" ∷ codes "200000" ∷ codes "--workers" ∷ codes "2" ∷ codes "--grammar" ∷ codes "stack" ∷ []) ≡ Some (command.Sample 200000 (codes "stack") (solving 2 64))
unfolding clap_on_literals
is_sample_of = refl

pub not_nothing : command_of [] ≡ None
unfolding clap_on_literals
not_nothing = refl

pub not_empty_word : command_of (codes "" ∷ []) ≡ None
unfolding clap_on_literals
not_empty_word = refl

pub not_unknown : command_of (codes "help" ∷ []) ≡ None
unfolding clap_on_literals
not_unknown = refl

pub not_help : command_of (codes "run" ∷ codes "--help" ∷ []) ≡ None
unfolding clap_on_literals
not_help = refl

pub not_positional : command_of (codes "run" ∷ codes "page" ∷ []) ≡ None
unfolding clap_on_literals
not_positional = refl

pub not_twice : command_of (codes "run" ∷ codes "--workers" ∷ codes "1" ∷ codes "--workers" ∷ codes "1" ∷ []) ≡ None
unfolding clap_on_literals
not_twice = refl

pub not_negative : command_of (codes "run" ∷ codes "--workers" ∷ codes "-4" ∷ []) ≡ None
unfolding clap_on_literals
not_negative = refl

pub not_no_value : command_of (codes "run" ∷ codes "--workers" ∷ []) ≡ None
unfolding clap_on_literals
not_no_value = refl

pub not_no_text : command_of (codes "run" ∷ codes "--workers=" ∷ []) ≡ None
unfolding clap_on_literals
not_no_text = refl

pub not_prefix : command_of (codes "run" ∷ codes "--work" ∷ codes "4" ∷ []) ≡ None
unfolding clap_on_literals
not_prefix = refl

pub not_no_worker : command_of (codes "run" ∷ codes "--workers" ∷ codes "0" ∷ []) ≡ None
unfolding clap_on_literals
not_no_worker = refl

pub not_many_workers : command_of (codes "run" ∷ codes "--workers" ∷ codes "65" ∷ []) ≡ None
unfolding clap_on_literals
not_many_workers = refl

pub not_large_grain : command_of (codes "run" ∷ codes "--grain" ∷ codes "1048577" ∷ []) ≡ None
unfolding clap_on_literals
not_large_grain = refl

pub not_eight_digits : command_of (codes "run" ∷ codes "--workers" ∷ codes "00000064" ∷ []) ≡ None
unfolding clap_on_literals
not_eight_digits = refl

pub not_plus : command_of (codes "run" ∷ codes "--workers" ∷ codes "+4" ∷ []) ≡ None
unfolding clap_on_literals
not_plus = refl

pub not_grammar : command_of (codes "run" ∷ codes "--grammar" ∷ codes "flow" ∷ []) ≡ None
unfolding clap_on_literals
not_grammar = refl

pub not_options_of_check : command_of (codes "check" ∷ codes "--workers" ∷ codes "1" ∷ []) ≡ None
unfolding clap_on_literals
not_options_of_check = refl

pub not_options_of_schedule : command_of (codes "schedule" ∷ codes "--grain" ∷ codes "1" ∷ []) ≡ None
unfolding clap_on_literals
not_options_of_schedule = refl

pub not_options_of_explain : command_of (codes "explain" ∷ codes "--workers" ∷ codes "1" ∷ []) ≡ None
unfolding clap_on_literals
not_options_of_explain = refl

pub not_words_of_explain : command_of (codes "explain" ∷ codes "x" ∷ []) ≡ None
unfolding clap_on_literals
not_words_of_explain = refl

pub not_options_of_demand : command_of (codes "demand" ∷ codes "--workers" ∷ codes "2" ∷ []) ≡ None
unfolding clap_on_literals
not_options_of_demand = refl

pub not_words_of_demand : command_of (codes "demand" ∷ codes "x" ∷ []) ≡ None
unfolding clap_on_literals
not_words_of_demand = refl

pub not_no_worker_of_edit : command_of (codes "edit" ∷ codes "--workers" ∷ codes "0" ∷ []) ≡ None
unfolding clap_on_literals
not_no_worker_of_edit = refl

pub not_grammar_of_edit : command_of (codes "edit" ∷ codes "--grammar" ∷ codes "flow" ∷ []) ≡ None
unfolding clap_on_literals
not_grammar_of_edit = refl

pub not_words_of_edit : command_of (codes "edit" ∷ codes "x" ∷ []) ≡ None
unfolding clap_on_literals
not_words_of_edit = refl

pub not_no_size : command_of (codes "sample" ∷ []) ≡ None
unfolding clap_on_literals
not_no_size = refl

pub not_no_piece : command_of (codes "sample" ∷ codes "0" ∷ []) ≡ None
unfolding clap_on_literals
not_no_piece = refl

pub not_many_pieces : command_of (codes "sample" ∷ codes "200001" ∷ []) ≡ None
unfolding clap_on_literals
not_many_pieces = refl

pub not_size_as_option : command_of (codes "sample" ∷ codes "--grammar" ∷ codes "flow" ∷ []) ≡ None
unfolding clap_on_literals
not_size_as_option = refl

pub not_unknown_grammar : command_of (codes "sample" ∷ codes "8" ∷ codes "--grammar" ∷ codes "page" ∷ []) ≡ None
unfolding clap_on_literals
not_unknown_grammar = refl

pub not_two_sizes : command_of (codes "sample" ∷ codes "8" ∷ codes "8" ∷ []) ≡ None
unfolding clap_on_literals
not_two_sizes = refl
