use Rattle.ftl_example.proofs.sizes.Limited.{examples_up_to}
use Rattle.ftl_example.proofs.sizes.ExampleSize.{none_smaller, some_so}
use Rattle.ftl_example.proofs.sizes.laws.least_examples.Goals as goal

pub returns : goal.returns
returns c = record {
  none_smaller = λ g pair law is t shows. none_smaller g law pair is t shows;
  some_so = λ g pair law is n e. some_so g law pair is n e;
  counted = λ most g pair. examples_up_to most g pair;
}
