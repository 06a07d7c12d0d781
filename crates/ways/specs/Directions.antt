-- The two directions as the definitions take them. Assumes nothing.
use Rattle.std.specs.Prelude.{suc, ◌-◌}
use Rattle.tallies.specs.declared.heading.Heading.{Ghosts as Directed}
use Rattle.tallies.specs.declared.heading.Onward.{Onward}
use Rattle.tallies.specs.declared.heading.Backward.{Backward}

abbrev pub onward : Directed Onward
onward = record { near = λ x. x.start; far = λ x. x.end; place = λ n k. suc k; row = λ n k. k }

abbrev pub backward : Directed Backward
backward = record { near = λ x. x.end; far = λ x. x.start; place = λ n k. n - k; row = λ n k. n - k }
