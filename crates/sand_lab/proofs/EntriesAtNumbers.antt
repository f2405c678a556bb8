-- A journal that is written part by part has the entry of each receipt at its number.
use Rattle.sand_lab.proofs.Common.{ℕ, ◌≡◌, ◌≢◌, ◌+◌, ◌-◌, ◌*◌, ◌/◌, ◌<◌, ◌≤◌, List, Vec, Global, All, length, get_or, set, Some, sym, ap, ◌∙◌, subst, ⊎_elim, arith, div-mul-add, slice_get-map, same_Some, slice_get-get_or, get_or_from_slice_get, slice_get_within, slice_get, option_map, Receipt, receipt, EachOnce, AllBelow, Entry, entry, lists, Ascends, AreParts, HasEntries, AgreeBeside, IsJournal}
use Rattle.std.proofs.lemmas.Bool.{cases_lt}
use Rattle.sand_shared.proofs.ReceiptsTellHistory.{get_set_here, get_set_else}
use Rattle.sand_lab.proofs.EachNumberOnce.{one_place}
use Rattle.sand_lab.proofs.JournalFollowsStreams.{in_all, in_part, length-part, length-parts, same_receipt, place_inside}

-- One part

-- the entry of each of the first i receipts of a part is at its number
abbrev pub PartNoted : ℕ → ℕ → List Receipt → List Entry → Type 0
PartNoted dropper i rs js =
    (j : ℕ) (r : Receipt) → j < i → slice_get rs j ≡ Some r → slice_get js r.number ≡ Some (entry dropper r.site)

-- at other numbers the two journals agree
abbrev pub AgreeElse : ℕ → List Receipt → List Entry → List Entry → Type 0
AgreeElse i rs before after = (n : ℕ) → ((j : ℕ) (r : Receipt) → j < i → slice_get rs j ≡ Some r → r.number ≢ n)
    → slice_get after n ≡ slice_get before n

module _ (dropper i : ℕ) (rs : List Receipt) (js : List Entry) (r : Receipt) (here : slice_get rs i ≡ Some r) where
  pub part_more : Ascends rs → r.number < length js → PartNoted dropper i rs js
      → PartNoted dropper (i + 1) rs (set js r.number (entry dropper r.site))
  part_more ascends inside noted j q before there =
      let new = entry dropper r.site in
      let below = slice_get_within rs i r here in
      ⊎_elim
      (λ (earlier : j < i).
      let rises = ascends j i (receipt 0 0) earlier below in
      let one = get_or_from_slice_get rs j q (receipt 0 0) there in
      let two = get_or_from_slice_get rs i r (receipt 0 0) here in
      let less : q.number < r.number =
      subst (λ (z : Receipt × Receipt). z.0.number < z.1.number) (λ k. (one k, two k)) rises in
      get_set_else js r.number q.number new (λ e. omega (arith, e, less)) ∙ noted j q earlier there)
      (λ (later : i ≤ j).
      let same : j ≡ i = omega (arith, later, before) in
      let is : r ≡ q = same_Some r q (sym here ∙ ap (slice_get rs) (sym same) ∙ there) in
      subst (λ (x : Receipt). slice_get (set js r.number new) x.number ≡ Some (entry dropper x.site))
      is (get_set_here js r.number new inside))
      (cases_lt j i)

  pub else_more : (before : List Entry) → AgreeElse i rs before js
      → AgreeElse (i + 1) rs before (set js r.number (entry dropper r.site))
  else_more before agree n none =
      get_set_else js r.number n (entry dropper r.site) (λ e. none i r (omega arith) here (sym e))
      ∙ agree n (λ j q less there. none j q (omega (arith, less)) there)

-- All parts

pub part_at : (parts : List (Vec Receipt Global)) (k : ℕ) (d : Vec Receipt Global) → k < length parts
    → slice_get (lists parts) k ≡ Some (get_or parts k d).items
part_at parts k d inside = slice_get-map (λ part. part.items) parts k
    ∙ ap (option_map (λ part. part.items)) (slice_get-get_or parts k d inside)

-- the entry of each of the first i receipts is at its number
abbrev pub NotedBelow : ℕ → ℕ → List Receipt → List Entry → Type 0
NotedBelow drops i rs js =
    (j : ℕ) (r : Receipt) → j < i → slice_get rs j ≡ Some r → slice_get js r.number ≡ Some (entry (j / drops) r.site)

module _ {drops : ℕ} {parts : List (List Receipt)} {rs : List Receipt} (are : AreParts drops parts rs) where
  pub part_below : (k : ℕ) (part : List Receipt) (long : ℕ) → slice_get parts k ≡ Some part → AllBelow long rs
      → AllBelow long part
  part_below k part long at below i d inside =
      let fits : i < drops = omega (arith, inside, length-part are k part at) in
      subst (λ (r : Receipt). r.number < long) (same_receipt are k part at i d fits)
      (below (k * drops + i) d (place_inside are k part at i fits))

  -- with one more part
  pub noted_more : (k : ℕ) (part : List Receipt) (before after : List Entry)
      → slice_get parts k ≡ Some part → EachOnce rs
      → HasEntries k part after → AgreeBeside part before after → NotedBelow drops (k * drops) rs before
      → NotedBelow drops ((k + 1) * drops) rs after
  noted_more k part before after at once entries agree noted j r less there =
      ⊎_elim
      (λ (earlier : j < k * drops).
      let none : All (λ (q : Receipt). q.number ≢ r.number) part = λ i d inside e.
      let in_part = slice_get-get_or part i d inside in
      let place : j ≡ k * drops + i = one_place rs j (k * drops + i) r (get_or part i d) once
      there (in_all are k part at i (get_or part i d) in_part) (sym e) in
      omega (arith, place, earlier) in
      agree r.number none ∙ noted j r earlier there)
      (λ (later : k * drops ≤ j).
      let i = j - k * drops in
      let place : j ≡ k * drops + i = omega (arith, later) in
      let inside : i < drops = omega (arith, later, less) in
      let here = subst (λ n. slice_get rs n ≡ Some r) place there in
      let whose : k ≡ j / drops = sym (ap (λ n. n / drops) place ∙ div-mul-add k drops i inside) in
      entries i r (in_part are k part at i r inside here) ∙ ap (λ n. Some (entry n r.site)) whose)
      (cases_lt j (k * drops))

  -- with all parts
  pub all_noted : (js : List Entry) → length js ≡ length rs → NotedBelow drops (length parts * drops) rs js
      → IsJournal drops rs js
  all_noted js long noted = record {
    len = long;
    noted = λ j r there.
        noted j r (omega (arith, slice_get_within rs j r there, length-parts are)) there;
  }
