-- Marks that are taken away one by one, and how many. Assumes nothing.
use Rattle.std.proofs.Common.{◌≡◌, ℕ, suc, ◌+◌, ◌<◌, Bool, true, false, cond, not, ◌&&◌, ◌≢◌, List, length, set, sym, ap, ◌∙◌, add-one, arith, get_or-set_other, get_or-set_same, below_more}
use Rattle.plans.specs.Cases.{Case, size}
use Rattle.ways.specs.Amounts.{marked}
use Rattle.through.specs.Keeping.{Sifted}

module _ (keep : Case) (old cur : List Bool) (i count : ℕ) (t : Sifted keep i old cur count) where
  -- the count with one more arc
  more : (b : Bool) → (marked old i && not (keep i)) ≡ b → size (λ a. marked old a && not (keep a)) (i + 1) ≡ cond b (suc (size (λ a. marked old a && not (keep a)) i)) (size (λ a. marked old a && not (keep a)) i)
  more b e = ap (size (λ a. marked old a && not (keep a))) (add-one i) ∙ ap (λ c. cond c (suc (size (λ a. marked old a && not (keep a)) i)) (size (λ a. marked old a && not (keep a)) i)) e

  -- the mark is as it was
  pub was : {b : Bool} → marked cur i ≡ b → marked old i ≡ b
  was e = sym (t.rest i (omega arith)) ∙ e

  -- a mark that is left
  sifted_left : marked cur i ≡ (marked old i && keep i) → (marked old i && not (keep i)) ≡ false → Sifted keep (i + 1) old cur count
  sifted_left here none = record {
    marks = below_more (λ a. marked cur a ≡ (marked old a && keep a)) i t.marks here;
    rest = λ a h. t.rest a (omega arith);
    answer = t.answer ∙ sym (more false none);
  }

  -- a mark that goes
  pub sifted_gone : i < length cur → marked cur i ≡ true → keep i ≡ false → Sifted keep (i + 1) old (set cur i false) (count + 1)
  sifted_gone room stood out =
      record {
        marks = below_more (λ a. marked (set cur i false) a ≡ (marked old a && keep a)) i (λ a h. let ne : a ≢ i = omega arith in get_or-set_other cur i a false false ne ∙ t.marks a h) (get_or-set_same cur i false false room ∙ sym (ap (λ b. b && keep i) (was stood) ∙ out));
        rest = λ a h. let ne : a ≢ i = omega arith in get_or-set_other cur i a false false ne ∙ t.rest a (omega arith);
        answer = ap (λ m. m + 1) t.answer ∙ add-one (size (λ a. marked old a && not (keep a)) i) ∙ sym (more true (ap (λ b. b && not (keep i)) (was stood) ∙ ap not out));
      }

  -- one that stays
  pub sifted_same : marked cur i ≡ true → keep i ≡ true → Sifted keep (i + 1) old cur count
  sifted_same stood stays = sifted_left (stood ∙ sym (ap (λ b. b && keep i) (was stood) ∙ stays)) (ap (λ b. b && not (keep i)) (was stood) ∙ ap not stays)

  -- one that was not there
  pub sifted_absent : marked cur i ≡ false → Sifted keep (i + 1) old cur count
  sifted_absent none = sifted_left (none ∙ sym (ap (λ b. b && keep i) (was none))) (ap (λ b. b && not (keep i)) (was none))
