use Rattle.std.proofs.Common.{◌≡◌}
use Rattle.lines.proofs.Wording.{Tried}
use Rattle.lines.proofs.reader.Reader.word.Given as goal

-- the words before this one are tried, and none begins the text
abbrev pub invariant-loop-word : goal.invariant-loop-word
invariant-loop-word l = (l.initial.self.rest.now ≡ l.self.rest.now) × Tried l.word-index l.self.rest.now l.best
