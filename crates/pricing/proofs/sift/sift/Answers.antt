use Rattle.std.proofs.Common.{◌<◌, ◌≡◌, length, ℤ, sym, ap, ◌∙◌, subst, arith}
use Rattle.charts.specs.Drafts.{places_of, arcs_of}
use Rattle.ways.specs.Amounts.{marked, price_at}
use Rattle.ways.proofs.Tables.{price_passed}
use Rattle.through.specs.Keeping.{Sifted}
use Rattle.through.proofs.Keeping.{read}
use Rattle.through.proofs.Sifting.{sifted_gone, sifted_same, sifted_absent, was}
use Rattle.pricing.proofs.sift.sift.Goals as goal
use Rattle.pricing.proofs.sift.sift.Goals.{then-stood+then-not-stays, else-stood, else-stood-via-then-stood+else-not-stays, else-stood-via-else-stood}

pub stays-requires : goal.stays-requires
stays-requires g c =
    let small = c.requires.fit.small in
    let i = c.loop-i.i in
    let r = read g.T.Tally g.met.T.Tally.lawful (places_of c.args.chart.now) (arcs_of c.args.chart.now) c.args.chart.now.sealed (marked c.args.standing.now) (price_at c.args.prices.now) small c.forward.new.out c.backward.new.out c.forward.ensures c.backward.ensures (c.forward.auto.out ∙ c.requires.fronts_long) (c.backward.auto.out ∙ c.requires.backs_long) c.arcs-arc-items.result.now c.arcs-arc-items.ensures i c.loop-i-test.true c.from.result c.from-in-loop-i.result c.entry.result c.entry-in-loop-i.result c.index-fronts-entry.result c.index-backs-entry.result c.from.ensures c.from-in-loop-i.ensures c.entry.ensures.value c.entry-in-loop-i.ensures.value c.index-fronts-entry.is c.index-backs-entry.is in
    c.requires.asked _ _ _ (rw (price_passed (price_at c.args.prices.now i) (small i)) (omega (arith, small i))) r.front_small r.back_small

-- what is said of three values is said of others that equal them
said : {A : Type 0} (P : ℤ → A → A → Type 0) {x x' : ℤ} {y y' z z' : A} → x ≡ x' → y ≡ y' → z ≡ z' → P x y z → P x' y' z'
said P {x} {x'} {y} {y'} {z} {z'} e f h p = subst (λ v. P x' y' v) h (subst (λ v. P x' v z) f (subst (λ v. P v y z) e p))

pub loop-i-preserved : goal.loop-i-preserved
loop-i-preserved g c =
    let small = c.requires.fit.small in
    let i = c.loop-i.i in
    let on = c.args.standing.now in
    let cur = c.loop-i.standing in
    let gone = c.loop-i.gone in
    let few = c.loop-i.invariant.few in
    let there : i < length (arcs_of c.args.chart.now) = omega (arith, ap length c.arcs-arc-items.ensures) in
    let room : i < length cur = omega (arith, c.requires.fit.marks) in
    let r = read g.T.Tally g.met.T.Tally.lawful (places_of c.args.chart.now) (arcs_of c.args.chart.now) c.args.chart.now.sealed (marked on) (price_at c.args.prices.now) small c.forward.new.out c.backward.new.out c.forward.ensures c.backward.ensures (c.forward.auto.out ∙ c.requires.fronts_long) (c.backward.auto.out ∙ c.requires.backs_long) c.arcs-arc-items.result.now c.arcs-arc-items.ensures i c.loop-i-test.true c.from.result c.from-in-loop-i.result c.entry.result c.entry-in-loop-i.result c.index-fronts-entry.result c.index-backs-entry.result c.from.ensures c.from-in-loop-i.ensures c.entry.ensures.value c.entry-in-loop-i.ensures.value c.index-fronts-entry.is c.index-backs-entry.is in
    let price = price_passed (price_at c.args.prices.now i) (small i) in
    record {
      few = elim c.if-stood.branch [
        | then-stood+then-not-stays w ↦ omega (arith, w.gone-is)
        | else-stood w ↦ omega (arith, w.gone-is)
      ];
      sifted = λ keep tells.
          let t = c.loop-i.invariant.sifted keep tells in
          elim c.if-stood.branch [
            | then-stood+then-not-stays w ↦
                let yes = tells i w.stays.result there (was keep on cur i gone t w.if-stood.true) (said (λ x y z. goal.F-post g c.args.stays x y z w.stays.result) price r.front r.behind w.stays.ensures) in
                rw (w.standing-is, w.gone-is) (sifted_gone keep on cur i gone t room w.if-stood.true (sym yes ∙ w.if-not-stays.true))
            | else-stood w ↦ rw (w.standing-is, w.gone-is) (elim w.else-stood.branch [
              | else-stood-via-then-stood+else-not-stays v ↦
                  let yes = tells i v.stays.result there (was keep on cur i gone t v.if-stood.true) (said (λ x y z. goal.F-post g c.args.stays x y z v.stays.result) price r.front r.behind v.stays.ensures) in
                  sifted_same keep on cur i gone t v.if-stood.true (sym yes ∙ v.if-not-stays.false)
              | else-stood-via-else-stood v ↦ sifted_absent keep on cur i gone t v.if-stood.false
            ])
          ];
    }

pub returns : goal.returns
returns g c = λ keep tells. subst (λ m. Sifted keep m c.args.standing.now c.loop-i.standing c.loop-i.gone) (omega (arith, ap length c.arcs-arc-items.ensures)) (c.loop-i.invariant.sifted keep tells)
