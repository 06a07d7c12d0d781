-- The words of the verdicts. Assumes nothing.
use Rattle.std.specs.Prelude.{ℕ, List, codes}
use Rattle.terms.specs.declared.verdict.Verdict.{Verdict}
use Rattle.terms.specs.declared.verdict.Verdict.TheVariants.{Open, Proved, Best, Refuted}

-- the word of a verdict
abbrev pub word_of : Verdict → List ℕ
word_of Open = codes "open"
word_of Proved = codes "proved"
word_of Best = codes "best"
word_of Refuted = codes "refuted"
