-- Where calls lead. Assumes nothing.
use Rattle.std.specs.Prelude.{◌≡◌, List}
use Rattle.rules.specs.Lawful.{Problem}
use Rattle.judging.specs.Cases.{Model, opened}
use Rattle.judging.specs.Calls.{Call, run}

-- some list of calls, refused ones among them, leads from a casebook as opened to this model
abbrev pub Reached : Problem → Model → Type 0
Reached t m = (calls : List Call) × (m ≡ run t calls (opened t))
