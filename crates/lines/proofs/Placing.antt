-- Where a reader halts, there is the first impossible byte. Assumes nothing.
use Rattle.std.proofs.Common.{◌≡◌, ℕ, ◌+◌, ◌-◌, ◌<◌, ◌≤◌, List, ◌++◌, length, take, drop, sym, ap, ◌∙◌, subst, inl, inr, ⊎_elim, append_assoc, arith, length-drop, take-append-drop}
use Rattle.std.proofs.lemmas.List.{take-take, take_all}
use Rattle.std.proofs.lemmas.Bool.{cases_lt}
use Rattle.lines.specs.Forms.{Formed}
use Rattle.lines.specs.Texts.{Stops, Halts}
use Rattle.lines.specs.Impossible.{Begins, FirstImpossible, LeastImpossible, TooShort}

-- a front of what begins a form begins one
pub begins_less : (l : List ℕ) (j k : ℕ) → j ≤ k → Begins (take k l) → Begins (take j l)
begins_less l j k le (t, m) =
    let cut : take k l ≡ take j l ++ drop j (take k l) = sym (take-append-drop j (take k l)) ∙ ap (λ x. x ++ drop j (take k l)) (take-take j k l le) in
    (drop j (take k l) ++ t, subst Formed (ap (λ x. x ++ t) cut ∙ append_assoc (take j l) (drop j (take k l)) t) m)

-- k bytes can begin a form, and what comes next cannot follow
stopped : (l : List ℕ) (k : ℕ) → Stops Formed l k → FirstImpossible l (k + 1)
stopped l k s = ⊎_elim (λ lt. inl (inside lt)) (λ le. inr (all le)) (cases_lt k (length l))
  where
    inside : k < length l → LeastImpossible l (k + 1)
    inside lt = record { within = omega arith; impossible = λ b. s.here lt b.0 b.1; least = λ j h. begins_less l j k (omega arith) s.before }

    all : length l ≤ k → TooShort l (k + 1)
    all le = record { begins = subst Begins (take_all k l le) s.before; none = s.whole; past = omega (arith, s.within) }

-- the place of the first impossible byte, from what is left
pub placed : (l l' rest : List ℕ) → l' ≡ l → Halts Formed l' rest → (length rest ≤ length l) × FirstImpossible l (length l - length rest + 1)
placed l l' rest same at =
    let h : Halts Formed l rest = subst (λ x. Halts Formed x rest) same at in
    let left : length rest ≡ length l - h.passed = ap length h.left ∙ length-drop h.passed l in
    let k : h.passed ≡ length l - length rest = omega (arith, h.stops.within) in
    (omega arith, subst (λ i. FirstImpossible l (i + 1)) k (stopped l h.passed h.stops))
