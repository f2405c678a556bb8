-- What a pass has after the step of an event, and what the value found tells it. A seat that has what a pass has is the
-- seat of that pass.
use Rattle.sand_shared.proofs.Common.{◌≡◌, ℕ, ◌≤◌, [], ◌∷◌, length, sym, ap, ◌∙◌, arith, List, subst, ◌+◌, ◌-◌, ◌<◌, ◌++◌, length-append, View, Terms, nobody, pass_at, count, look, unload, looked, unloaded, receipts_from, all_draws, drew_all, Happened, Inside, Receipt, shown, IsBare, PassView, at_rest, EachOnce, AllBelow, IsPass, Me}
use Rattle.sand_shared.specs.Events.{counted}
use Rattle.sand_shared.proofs.WordsShowPile.{pass_at-with}
use Rattle.atomic_table.specs.Seated.{TableId}
use Rattle.sand_shared.proofs.EventsInARow.{drew_row_is, row_fresh, below_row, once_row}
use Rattle.sand_shared.proofs.Receipts.{receipts_from-length}

module _ {t : Terms} {a : ℕ} {v w : View} {n : ℕ} where
  pub counted_is : Happened t a (count a ∷ []) v n w → w ≡ counted v n
  counted_is h =
      let p = h.before.pile in
      sym h.pass_after ∙ pass_at-with p a (counted (pass_at p a) (length p.drawn)) h.before.there
      ∙ (λ q. counted (h.before.pass q) (sym h.number q))

  pub looked_is : {i : ℕ} → Happened t a (look a i ∷ []) v n w → w ≡ looked v i n
  looked_is {i = i} h =
      let p = h.before.pile in
      sym h.pass_after ∙ pass_at-with p a (looked (pass_at p a) i (p.height i)) h.before.there
      ∙ (λ q. looked (h.before.pass q) i (sym h.number q))

  pub unloaded_is : {i k : ℕ} → Happened t a (unload a i k ∷ []) v n w → w ≡ unloaded t v i k
  unloaded_is {i = i} {k = k} h =
      let p = h.before.pile in
      sym h.pass_after ∙ pass_at-with p a (unloaded t (pass_at p a) i k) h.before.there
      ∙ (λ q. unloaded t (h.before.pass q) i k)

  -- the number counted is at least what the pass had seen
  pub counted_fresh : Happened t a (count a ∷ []) v n w → v.seen ≤ n
  counted_fresh h =
      let seen = (h.before.lawful.passes a nobody h.before.there).seen in
      omega (arith, ap (λ (u : View). u.seen) h.before.pass, h.number)

-- equal passes, with what is known of a height kept
pub known_is : (w v : View) → w ≡ v → w ≡ record v { spot = w.spot; least = w.least }
known_is w v e = e ∙ (λ q. record v { spot = (sym e q).spot; least = (sym e q).least })

-- a pass with other receipts, each number once and seen
pub with_receipts : {p : PassView} {table : TableId} {left seen : ℕ} {receipts : List Receipt}
    → IsPass p → EachOnce receipts → AllBelow seen receipts
    → IsPass (record p { table = table; left = left; seen = seen; receipts = receipts })
with_receipts pass once below =
    record { once = once; below = below; grid = pass.grid; rows = pass.rows; len = pass.len }

pub seated : {x : Inside} (q : PassView) (spot least : ℕ)
    → IsPass q → x.made ≡ length q.receipts
    → x.seat.me.0 ≡ record (at_rest q) { spot = spot; least = least }
    → x.seat.me.1 ≡ []
    → shown x ≡ record q { table = x.seat.table_id; receipts = x.seat.me.0.receipts } → IsBare x
seated {x = x} q spot least pass made has free is =
    let v = x.seat.me.0 in
    let same : q.receipts ≡ v.receipts = sym (ap (λ (u : View). u.receipts) has) in
    let here = has ∙ (λ i. record (at_rest (record q { receipts = same i })) { spot = spot; least = least })
    ∙ ap (λ (p : PassView). record (at_rest p) { spot = spot; least = least }) (sym is) in
    record {
      me = λ i. (known_is v (record (at_rest (shown x)) { spot = spot; least = least }) here i, free i);
      each_made = made ∙ ap (λ (rs : List Receipt). length rs) same;
      pass = subst IsPass (sym is) (with_receipts pass (subst EachOnce same pass.once) (subst (AllBelow q.seen) same pass.below));
    }

-- what a pass has after drops of a list, the first of which has the number n
abbrev pub dropped : Inside → ℕ → List ℕ → PassView
dropped x n ds = record (shown x) {
  left = x.left - length ds;
  seen = n + length ds;
  receipts = x.seat.me.0.receipts ++ receipts_from n ds;
}

-- its seat has drawn their numbers
module _ {t : Terms} {a n : ℕ} {v : View} {x : Inside} (inv : IsBare x) (ds : List ℕ) (some_drops : 0 < length ds)
    (drew : Happened t a (all_draws a ds) x.seat.me.0 n v) where
  pub drawn : v ≡ drew_all (record (at_rest (shown x)) { spot = x.seat.me.0.spot; least = x.seat.me.0.least }) n ds
  drawn = drew_row_is t a ds x.seat.me.0 v n some_drops drew ∙ ap (λ (m : Me ℕ View). drew_all m.0 n ds) inv.me

  pub fresh : x.seen ≤ n
  fresh = omega (arith, row_fresh t a ds x.seat.me.0 v n some_drops drew, ap (λ (m : Me ℕ View). m.0.seen) inv.me)

  -- and has laid the grains
  pub has_dropped : {w : View} → w ≡ record v { hand = [] }
      → w ≡ record (at_rest (dropped x n ds)) { spot = x.seat.me.0.spot; least = x.seat.me.0.least }
  has_dropped laid = laid ∙ ap (λ (u : View). record u { hand = [] }) drawn

  pub bare_dropped : {y : Inside} → y.made ≡ x.made + length ds
      → y.seat.me.0 ≡ record v { hand = [] } → y.seat.me.1 ≡ []
      → shown y ≡ record (dropped x n ds) { table = y.seat.table_id; receipts = y.seat.me.0.receipts } → IsBare y
  bare_dropped made laid free is =
      let rs = x.seat.me.0.receipts in
      let more = length-append rs (receipts_from n ds) in
      let same = receipts_from-length n ds in
      let each = inv.each_made in
      seated (dropped x n ds) x.seat.me.0.spot x.seat.me.0.least
      (with_receipts inv.pass (once_row x.seen n ds rs fresh inv.pass.below inv.pass.once)
      (below_row x.seen n ds rs fresh inv.pass.below))
      (omega arith) (has_dropped laid) free is
