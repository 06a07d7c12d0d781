-- A claim and a close, one after the other, from a casebook as opened. Assumes nothing.
use Rattle.std.proofs.Common.{◌≡◌, ℕ, ◌≤◌, List, [], ◌∷◌, ℤ, sym, ap, ◌∙◌, subst, inl}
use Rattle.std.proofs.lemmas.Bool.{le-ltb}
use Rattle.terms.specs.declared.verdict.Verdict.TheVariants.{Proved}
use Rattle.rules.specs.Lawful.{Problem}
use Rattle.judging.specs.Cases.{Model, opened}
use Rattle.judging.specs.Calls.{Call, claim, close, on_claim, on_close, run, verdict_of}
use Rattle.judging.specs.Theorem.{Meant, Recalled, NoneUnder, last_claim}

-- the two calls
abbrev pub calls : ℕ → List ℤ → List Call
calls k zs = claim k ∷ close zs ∷ []

-- a claim of at most 1,000,000 is accepted, so it is the last
accepted : (t : Problem) (k : ℕ) (zs : List ℤ) → k ≤ 1000000 → last_claim t (calls k zs) (opened t) 0 ≡ k
accepted t k zs h = let e = le-ltb 1000000 k h in rw e

-- the model and the problem after each call, as the calls' contracts tie them; t is the problem that was posed
pub record Chain (t : Problem) (k : ℕ) (zs : List ℤ) : Type 0 where
  pub posed : Problem
  pub claimed : Problem
  pub judged : Problem
  pub begun : Model
  pub started : Model
  pub ended : Model
  pub poses : posed ≡ t
  pub begins : begun ≡ opened posed
  pub starts : started ≡ (on_claim posed begun k).left
  pub keeps : claimed ≡ posed
  pub ends : ended ≡ (on_close claimed started zs).left
  pub stays : judged ≡ claimed

-- the model at the end is that of a run
pub ran : {t : Problem} {k : ℕ} {zs : List ℤ} (c : Chain t k zs) → c.ended ≡ run c.judged (calls k zs) (opened c.judged)
ran {k = k} {zs = zs} c =
    let e = c.stays in
    let d = c.keeps in
    c.ends
    ∙ ap (λ (m : Model). (on_close c.claimed m zs).left) (c.starts ∙ ap (λ (m : Model). (on_claim c.posed m k).left) c.begins)
    ∙ ap (λ (p : Problem). (on_close c.claimed (on_claim p (opened p) k).left zs).left) (sym d)
    ∙ ap (λ (p : Problem). (on_close p (on_claim p (opened p) k).left zs).left) (sym e)

-- so a verdict that is proved means what it says of the claim
pub settles : {t : Problem} {k : ℕ} {zs : List ℤ} (c : Chain t k zs) → k ≤ 1000000 → verdict_of c.judged c.ended ≡ Proved
    → Meant c.judged c.ended → Recalled c.judged (calls k zs) → NoneUnder t k
settles {t = t} {k = k} {zs = zs} c h v means recalled =
    let n : c.ended.claimed ≡ k = ap (λ (m : Model). m.claimed) (ran c) ∙ recalled.claim ∙ accepted c.judged k zs h in
    let q : c.judged ≡ t = c.stays ∙ c.keeps ∙ c.poses in
    subst (λ (p : Problem). NoneUnder p k) q (subst (λ (j : ℕ). NoneUnder c.judged j) n (means.confirmed (inl v)))
