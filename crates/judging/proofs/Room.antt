-- The pile never fills up. Assumes nothing.
use Rattle.std.proofs.Common.{◌≡◌, ℕ, Bool, true, false, not, ◌&&◌, leb, length, Some, None, Ok, Err, Option, refl, ap, arith}
use Rattle.std.proofs.lemmas.Bool.{lt-leb, both_ways}
use Rattle.terms.specs.declared.refusal.Refusal.{Refusal}
use Rattle.terms.specs.declared.refusal.Refusal.TheVariants.{NoCase, SplitPlace, OneSided, PileFull}
use Rattle.terms.specs.Refusals.{when, or_else, Outcome, decided}
use Rattle.rules.specs.Lawful.{Problem}
use Rattle.judging.specs.Cases.{Model, opened, none_open, top}
use Rattle.judging.specs.Calls.{one_sided, split_rows, split_done, run}
use Rattle.judging.specs.Theorem.{Sized, NeverFull}
use Rattle.judging.proofs.Sizes.{sized_top, split_sizes}
use Rattle.judging.proofs.Sound.{opened_safe, run_safe}

-- if none of the rows before the last holds, the last does not
no_room : (t : Problem) (m : Model) (k routes : ℕ) → Sized (length t.arcs) m.pile → none_open m.pile ≡ false → one_sided t.arcs k routes (top m.pile) ≡ false → leb 1024 (length m.pile) ≡ false
no_room t m k routes s o h =
    let z = sized_top (length t.arcs) m.pile o s in
    let l = split_sizes t.arcs k routes (top m.pile) h in
    lt-leb 1024 (length m.pile) (omega (arith, z.0, z.2, l.0, l.2))

refusal_of : (m : Model) (o : Option Refusal) (done : Outcome Model ℕ) (n : ℕ) → done.answer ≡ Ok n → (decided m o done).answer ≡ Err PileFull → o ≡ Some PileFull
refusal_of m None done n d e = let z : ◌≡◌ {A = ℕ} 0 1 = cc in absurd (omega arith)
refusal_of m (Some r) done n d e = let z : r ≡ PileFull = cc in ap (λ (x : Refusal). Some x) z

rows_full : (a b c d : Bool) → (a ≡ false → c ≡ false → d ≡ false) → or_else (when a NoCase) (or_else (when b SplitPlace) (or_else (when c OneSided) (or_else (when d PileFull) None))) ≡ Some PileFull → ⊥
rows_full true b c d h e = let z : ◌≡◌ {A = ℕ} 0 1 = cc in omega arith
rows_full false true c d h e = let z : ◌≡◌ {A = ℕ} 0 1 = cc in omega arith
rows_full false false true d h e = let z : ◌≡◌ {A = ℕ} 0 1 = cc in omega arith
rows_full false false false true h e = both_ways true (h refl refl) refl
rows_full false false false false h e = let z : ◌≡◌ {A = ℕ} 0 1 = cc in omega arith

pub never_full : NeverFull
never_full t posed calls =
    let m = run t calls (opened t) in
    let s = run_safe t posed.chart.count calls (opened t) (opened_safe t posed.chart.count) in (
      s.sized,
      λ k routes e.
          rows_full (none_open m.pile) (not (leb 1 k && leb k t.places)) (one_sided t.arcs k routes (top m.pile)) (leb 1024 (length m.pile))
          (no_room t m k routes s.sized)
          (refusal_of m (split_rows t m k routes) (split_done t m k routes) _ refl e),
    )
