-- What a journal says of the drops of one dropper, whose receipts are a part of all: their sites, picked from the
-- journal, are those of its receipts.
use Rattle.sand_lab.proofs.Common.{ℕ, zero, suc, ◌≡◌, ◌≢◌, ◌+◌, ◌<◌, List, [], ◌∷◌, Some, refl, ap, ap₂, ⊎_elim, arith, ◌*◌, ◌/◌, ◌%◌, ◌≤◌, All, take, length, get_or, sym, ◌∙◌, subst, length-append, none-some, same_Some, get_or_from_slice_get, slice_get_within, slice_get-get_or, slice_get, Receipt, Entry, entry, receipt_sites, sites_by, Ascends, flattened, AreParts, IsJournal, FollowsStreams, take_all, div-mul-add, div-add-mod', mul-le-mul_right, EachOnce, AllBelow, stream_of, stream_sites}
use Rattle.std.proofs.lemmas.Bool.{cases_eq, eq-eqb, ne_eqb}
use Rattle.sand_lab.proofs.EachNumberOnce.{HasNumber, receipt_of}
use Rattle.std.proofs.lemmas.List.Concat.{get_or-flat_map}

-- Below, js is the tail of a journal, whose entries are numbered from m on.

-- the entry of receipt r, under dropper k, is at its number
abbrev pub HasEntry : ℕ → ℕ → List Entry → Receipt → Type 0
HasEntry k m js r = (n : ℕ) × (r.number ≡ m + n) × (slice_get js n ≡ Some (entry k r.site))

-- the entries of dropper k there are those of the receipts rs
pub record Matches (k m : ℕ) (js : List Entry) (rs : List Receipt) : Type 0 where
  pub ascends : Ascends rs
  pub entries : (i : ℕ) (r : Receipt) → slice_get rs i ≡ Some r → HasEntry k m js r
  pub receipts : (n : ℕ) (e : Entry) → slice_get js n ≡ Some e → e.dropper ≡ k → HasNumber rs (m + n)

-- the first number is below every later one
below_later : (r : Receipt) (rs : List Receipt) → Ascends (r ∷ rs) → (i : ℕ) (q : Receipt) → slice_get rs i ≡ Some q
    → r.number < q.number
below_later r rs up i q there =
    let less = up 0 (suc i) q (omega arith) (omega (arith, slice_get_within rs i q there)) in
    let same = ap (λ (x : Receipt). x.number) (get_or_from_slice_get rs i q q there) in omega arith

-- if the first entry is the dropper's, it has the number of the first receipt
first_number : (k m : ℕ) (e : Entry) (js : List Entry) (r : Receipt) (rs : List Receipt)
    → Matches k m (e ∷ js) (r ∷ rs) → e.dropper ≡ k → r.number ≡ m
first_number k m e js r rs given is =
    let has = given.receipts zero e refl is in at_first has.index has.one has.there has.number
  where
    at_first : (i : ℕ) (q : Receipt) → slice_get (r ∷ rs) i ≡ Some q → q.number ≡ m + zero → r.number ≡ m
    at_first zero q there number = let same = ap (λ (x : Receipt). x.number) (same_Some r q there) in omega arith
    at_first (suc i) q there number =
        let less = below_later r rs given.ascends i q there in
        let from = (given.entries zero r refl).1 in absurd (omega arith)

-- and the site of the first receipt
first_site : (k m : ℕ) (e : Entry) (js : List Entry) (r : Receipt) (rs : List Receipt)
    → Matches k m (e ∷ js) (r ∷ rs) → r.number ≡ m → e.site ≡ r.site
first_site k m e js r rs given first = at_first (given.entries zero r refl)
  where
    at_first : HasEntry k m (e ∷ js) r → e.site ≡ r.site
    at_first (zero, number, there) = ap (λ (x : Entry). x.site) (same_Some e (entry k r.site) there)
    at_first (suc n, number, there) = absurd (omega arith)

-- an entry with a greater number is in the rest
in_rest : (k m : ℕ) (e : Entry) (js : List Entry) (r : Receipt) → m < r.number → HasEntry k m (e ∷ js) r
    → HasEntry k (m + 1) js r
in_rest k m e js r later (zero, number, there) = absurd (omega arith)
in_rest k m e js r later (suc n, number, there) = (n, omega arith, there)

-- after the dropper's first entry, its other entries match its other receipts
past_first : (k m : ℕ) (e : Entry) (js : List Entry) (r : Receipt) (rs : List Receipt)
    → Matches k m (e ∷ js) (r ∷ rs) → r.number ≡ m → Matches k (m + 1) js rs
past_first k m e js r rs given first = record {
  ascends = λ i j d before inside. given.ascends (suc i) (suc j) d (omega arith) (omega arith);
  entries = λ i q there.
      let less = below_later r rs given.ascends i q there in
      in_rest k m e js q (omega arith) (given.entries (suc i) q there);
  receipts = λ n x there is.
      let has = given.receipts (suc n) x there is in not_first n has.index has.one has.there has.number;
}
  where
    not_first : (n i : ℕ) (q : Receipt) → slice_get (r ∷ rs) i ≡ Some q → q.number ≡ m + suc n
        → HasNumber rs (m + 1 + n)
    not_first n zero q there number =
        let same = ap (λ (x : Receipt). x.number) (same_Some r q there) in
        absurd (omega arith)
    not_first n (suc i) q there number = record { index = i; one = q; there = there; number = omega arith }

-- after another dropper's entry nothing has changed
past_other : (k m : ℕ) (e : Entry) (js : List Entry) (rs : List Receipt) → Matches k m (e ∷ js) rs → e.dropper ≢ k
    → Matches k (m + 1) js rs
past_other k m e js rs given other = record {
  ascends = given.ascends;
  entries = λ i r there. let has = given.entries i r there in in_rest k m e js r (later r has) has;
  receipts = λ n x there is.
      let has = given.receipts (suc n) x there is in
      record { index = has.index; one = has.one; there = has.there; number = omega (arith, has.number) };
}
  where
    later : (r : Receipt) → HasEntry k m (e ∷ js) r → m < r.number
    later r (zero, number, there) = absurd (other (ap (λ (x : Entry). x.dropper) (same_Some e (entry k r.site) there)))
    later r (suc n, number, there) = omega arith

-- so the dropper's sites are those of its receipts
abbrev pub Picked : ℕ → List Entry → Type 0
Picked k js = (m : ℕ) (rs : List Receipt) → Matches k m js rs → sites_by k js ≡ receipt_sites rs

picked_first : (k m : ℕ) (e : Entry) (js : List Entry) (rs : List Receipt)
    → Picked k js → Matches k m (e ∷ js) rs → e.dropper ≡ k
    → e.site ∷ sites_by k js ≡ receipt_sites rs
picked_first k m e js [] later given is = absurd (none-some _ (given.receipts zero e refl is).there)
picked_first k m e js (r ∷ rs) later given is =
    let first = first_number k m e js r rs given is in
    ap₂ (λ (x : ℕ) (xs : List ℕ). x ∷ xs) (first_site k m e js r rs given first)
    (later (m + 1) rs (past_first k m e js r rs given first))

pub picked : (k : ℕ) (js : List Entry) → Picked k js
picked k [] m [] given = refl
picked k [] m (r ∷ rs) given = absurd (none-some _ (given.entries zero r refl).2)
picked k (e ∷ js) m rs given =
    ⊎_elim
    (λ (is : e.dropper ≡ k). rw (eq-eqb e.dropper k is) (picked_first k m e js rs (picked k js) given is))
    (λ (other : e.dropper ≡ k → ⊥).
    rw (ne_eqb e.dropper k other) (picked k js (m + 1) rs (past_other k m e js rs given other)))
    (cases_eq e.dropper k)

-- the first k parts of d receipts each have k * d receipts
length-first : (drops k : ℕ) (parts : List (List Receipt))
    → All (λ (part : List Receipt). length part ≡ drops) parts → k ≤ length parts
    → length (flattened (take k parts)) ≡ k * drops
length-first drops zero parts long few = omega arith
length-first drops (suc k) [] long few = absurd (omega arith)
length-first drops (suc k) (part ∷ parts) long few =
    let first = long 0 [] (omega arith) in
    let later = length-first drops k parts (λ i d inside. long (suc i) d (omega arith)) (omega arith) in
    let both = length-append part (flattened (take k parts)) in omega arith

-- if there is any receipt, no part is empty
some_each : (n many drops : ℕ) → n < many * drops → 0 < drops
some_each n many zero inside = absurd (omega arith)
some_each n many (suc drops) inside = omega arith

module _ {drops : ℕ} {parts : List (List Receipt)} {rs : List Receipt} (are : AreParts drops parts rs) where
  pub length-parts : length rs ≡ length parts * drops
  length-parts =
      let every = take_all (length parts) parts (omega arith) in
      let all = length-first drops (length parts) parts are.len (omega arith) in
      ap (λ (xs : List Receipt). length xs) (sym are.whole)
      ∙ (ap (λ (ps : List (List Receipt)). length (flattened ps)) (sym every) ∙ all)

  module _ (k : ℕ) (part : List Receipt) (there : slice_get parts k ≡ Some part) where
    read : get_or parts k [] ≡ part
    read = get_or_from_slice_get parts k part [] there

    pub length-part : length part ≡ drops
    length-part = ap (λ (p : List Receipt). length p) (sym read) ∙ are.len k [] (slice_get_within parts k part there)

    pub ascends : Ascends part
    ascends = subst Ascends read (are.ascend k [] (slice_get_within parts k part there))

    -- the i-th receipt of part k has the index k * drops + i
    pub same_receipt : (i : ℕ) (d : Receipt) → i < drops → get_or rs (k * drops + i) d ≡ get_or part i d
    same_receipt i d inside =
        let within = slice_get_within parts k part there in
        let long = length-part in
        let before = length-first drops k parts are.len (omega arith) in
        let fits : i < length (get_or parts k []) = rw read (omega arith) in
        ap (λ (xs : List Receipt). get_or xs (k * drops + i) d) (sym are.whole)
        ∙ (ap (λ n. get_or (flattened parts) (n + i) d) (sym before)
        ∙ (get_or-flat_map (λ (p : List Receipt). p) parts k i [] d within fits
        ∙ ap (λ (p : List Receipt). get_or p i d) read))

    pub place_inside : (i : ℕ) → i < drops → k * drops + i < length rs
    place_inside i inside = omega (arith, length-parts, mul-le-mul_right drops (slice_get_within parts k part there))

    pub in_all : (i : ℕ) (r : Receipt) → slice_get part i ≡ Some r → slice_get rs (k * drops + i) ≡ Some r
    in_all i r at_part =
        let long = length-part in
        let within = slice_get_within part i r at_part in
        let inside : i < drops = omega arith in
        slice_get-get_or rs (k * drops + i) r (place_inside i inside)
        ∙ ap Some (same_receipt i r inside ∙ get_or_from_slice_get part i r r at_part)

    -- and the converse
    pub in_part : (i : ℕ) (r : Receipt) → i < drops → slice_get rs (k * drops + i) ≡ Some r → slice_get part i ≡ Some r
    in_part i r inside at_all =
        slice_get-get_or part i r (omega (arith, inside, length-part))
        ∙ ap Some (sym (same_receipt i r inside) ∙ get_or_from_slice_get rs (k * drops + i) r r at_all)

    module _ (js : List Entry) (once : EachOnce rs)
        (below : AllBelow (length rs) rs) (journal : IsJournal drops rs js) where
      -- each receipt of the part has its entry, under the k-th dropper
      entries : (i : ℕ) (r : Receipt) → slice_get part i ≡ Some r → HasEntry k 0 js r
      entries i r at_part =
          let long = length-part in
          let within = slice_get_within part i r at_part in
          let inside : i < drops = omega arith in (
            r.number,
            omega arith,
            journal.noted (k * drops + i) r (in_all i r at_part)
                ∙ ap (λ x. Some (entry x r.site)) (div-mul-add k drops i inside),
          )

      -- each entry of the k-th dropper has its receipt in the part
      receipts : (n : ℕ) (e : Entry) → slice_get js n ≡ Some e → e.dropper ≡ k → HasNumber part (0 + n)
      receipts n e at_journal is =
          let as_many = journal.len in
          let all = length-parts in
          let within = slice_get_within js n e at_journal in
          let some = some_each n (length parts) drops (omega arith) in
          let has = receipt_of rs once below n (omega arith) in
          let p = has.index in
          let r = has.one in
          let i = p % drops in
          let noted : slice_get js n ≡ Some (entry (p / drops) r.site) =
          ap (slice_get js) (sym has.number) ∙ journal.noted p r has.there in
          let inside : i < drops = omega arith in
          let row : p / drops ≡ k = ap (λ (x : Entry). x.dropper) (same_Some _ _ (sym noted ∙ at_journal)) ∙ is in
          let place : k * drops + i ≡ p = ap (λ q. q * drops + i) (sym row) ∙ div-add-mod' p drops in
          let same : get_or part i r ≡ r =
          sym (same_receipt i r inside) ∙ (ap (λ q. get_or rs q r) place ∙ get_or_from_slice_get rs p r r has.there) in
          let long = length-part in
          record {
            index = i;
            one = r;
            there = slice_get-get_or part i r (omega arith) ∙ ap Some same;
            number = omega (arith, has.number);
          }

      -- so the k-th dropper's sites are those of the part
      pub part_sites : sites_by k js ≡ receipt_sites part
      part_sites = picked k js zero part (record { ascends = ascends; entries = entries; receipts = receipts })

-- if each part has the sites of its dropper's stream, the journal follows the streams
pub follows_streams : (sites seed droppers drops epoch : ℕ)
    (parts : List (List Receipt)) (rs : List Receipt) (js : List Entry)
    → AreParts drops parts rs → length parts ≡ droppers
    → EachOnce rs → AllBelow (length rs) rs → IsJournal drops rs js
    → ((k : ℕ) (part : List Receipt) → slice_get parts k ≡ Some part
    → receipt_sites part ≡ stream_sites sites seed (stream_of epoch k) drops)
    → FollowsStreams sites seed droppers drops epoch js
follows_streams sites seed droppers drops epoch parts rs js are many once below journal streams = record {
  all = journal.len ∙ (length-parts are ∙ ap (λ n. n * drops) many);
  each = λ k less.
      let part = get_or parts k [] in
      let there : slice_get parts k ≡ Some part = slice_get-get_or parts k [] (omega arith) in
      part_sites are k part there js once below journal ∙ streams k part there;
}
