-- If the numbers of receipts are all different and below their count, each number below it occurs exactly once. So the
-- sites of a journal are the history.
use Rattle.sand_lab.proofs.Common.{ℕ, ◌≡◌, ◌<◌, List, map, length, get_or, Some, sym, ap, ◌∙◌, arith, length-map, All-map, get_or_from_slice_get, slice_get-get_or, slice_get_within, slice_get-map, slice_get, option_map, sum_below, occurrences, one_at, Receipt, numbered, receipt, EachOnce, AllBelow, Tells, Entry, sites_in, IsJournal}
use Rattle.sand_model.proofs.Bounds.{fewer_than_all}
use Rattle.sand_model.proofs.Occurrences.{sum_below-occurrences}
use Rattle.sand_shared.proofs.ReceiptsTellHistory.{apart, found, history_is}
use Rattle.sand_shared.proofs.SumsOverPasses.{sum_by-map}

abbrev pub numbers_of : List Receipt → List ℕ
numbers_of rs = map (λ (r : Receipt). r.number) rs

occurrences-numbers : (rs : List Receipt) (n : ℕ) → occurrences (numbers_of rs) n ≡ numbered rs n
occurrences-numbers rs n = sum_by-map (λ j. one_at j n) (λ (r : Receipt). r.number) rs

-- n different numbers below n leave none out
pub each_number : (rs : List Receipt) → EachOnce rs → AllBelow (length rs) rs → (n : ℕ) → n < length rs
    → numbered rs n ≡ 1
each_number rs once below n inside =
    let all : sum_below (length rs) (occurrences (numbers_of rs)) ≡ length (numbers_of rs) =
    sum_below-occurrences (length rs) (numbers_of rs) (All-map (λ j. j < length rs) (λ (r : Receipt). r.number) rs below) in
    let long : length (numbers_of rs) ≡ length rs = length-map rs (λ (r : Receipt). r.number) in
    let here = once n in
    let same = occurrences-numbers rs n in
    let less = λ (none : numbered rs n < 1). fewer_than_all (length rs) (occurrences (numbers_of rs)) n
    (λ i l. let o = once i in let e = occurrences-numbers rs i in omega arith) inside (omega arith) in
    grind (arith, all, long, here, same, less)

-- some receipt has the number n
pub record HasNumber (rs : List Receipt) (n : ℕ) : Type 0 where
  pub index : ℕ
  pub one : Receipt
  pub there : slice_get rs index ≡ Some one
  pub number : one.number ≡ n

-- so each number below their count has a receipt
pub receipt_of : (rs : List Receipt) → EachOnce rs → AllBelow (length rs) rs → (n : ℕ) → n < length rs → HasNumber rs n
receipt_of rs once below n inside =
    let one = each_number rs once below n inside in
    let d = receipt 0 0 in
    let f = found rs n d (omega arith) in
    record { index = f.0; one = get_or rs f.0 d; there = slice_get-get_or rs f.0 d f.1; number = f.2 }

-- receipts with the same number have the same index
pub one_place : (rs : List Receipt) (i j : ℕ) (r q : Receipt) → EachOnce rs
    → slice_get rs i ≡ Some r → slice_get rs j ≡ Some q → r.number ≡ q.number
    → i ≡ j
one_place rs i j r q once here there same =
    let number : Receipt → ℕ = λ x. x.number in
    let first = ap number (get_or_from_slice_get rs i r r here) in
    let second = ap number (get_or_from_slice_get rs j q r there) in
    let other = apart rs i j r once (slice_get_within rs i r here) (slice_get_within rs j q there) in
    grind (arith, first, second, same, other)

-- the sites of a journal agree with its receipts
pub journal_tells : (drops : ℕ) (rs : List Receipt) (js : List Entry) → IsJournal drops rs js → Tells rs (sites_in js)
journal_tells drops rs js journal k d inside =
    let r = get_or rs k d in
    slice_get-map (λ (e : Entry). e.site) js r.number
    ∙ ap (option_map (λ (e : Entry). e.site)) (journal.noted k r (slice_get-get_or rs k d inside))

-- a journal and a history of the same receipts have the same sites
pub journal_sites : (drops : ℕ) (rs : List Receipt) (js : List Entry) (history : List ℕ)
    → IsJournal drops rs js → Tells rs history → EachOnce rs
    → AllBelow (length rs) rs → length history ≡ length rs
    → sites_in js ≡ history
journal_sites drops rs js history journal told once below long =
    history_is rs history (λ n inside. let one = each_number rs once below n (omega arith) in omega arith)
    (sites_in js) (length-map js (λ (e : Entry). e.site) ∙ journal.len ∙ sym long)
    (journal_tells drops rs js journal) told
