-- Waves one after another, and the list of their sizes.
use Rattle.sand_fronts.proofs.Common.{ℕ, List, [], ◌∷◌, ◌++◌, length, sum, take, get_or, ◌≡◌, ◌+◌, ◌-◌, ◌<◌, ◌≤◌, refl, sym, ◌∙◌, ap₂, arith, ⊎_elim, slice_set, cases_eq, ext_get_or, length-take-le, get_or-take, length-append, get_or_append_left, get_or-append-add, length-set, get_or-set_same, get_or-set_other, Grid, sites, IsUnderway, IsSettled, IsStable, Stabilises, topplings, flow_same, flow-add, settled_once, sum_below-add, sum_below_same, sum_below_none, underway_start, underway_end, Covers, IsOneWave, WavesLead, AreWrittenTo, HasWaves}
use Rattle.std.proofs.lemmas.List.Sums.{sum_by-cons}

-- ---- one wave

-- what stabilises the heights topples a site that has 4
pub covers_of : {g : Grid} {h w : ℕ → ℕ} (site : ℕ) → site < sites g → 4 ≤ h site → Stabilises g h w → Covers g site h w
covers_of site inside high stable = record {
  started = omega (arith, stable.at_most_three site inside);
  at_most_three = λ j l ne. stable.at_most_three j l;
}

one_wave_same : {g : Grid} {site : ℕ} {h i v k m : ℕ → ℕ} → site < sites g → ((j : ℕ) → j < sites g → h j ≡ i j)
    → ((j : ℕ) → j < sites g → k j ≡ m j) → IsOneWave g site h v k → IsOneWave g site i v m
one_wave_same {site = site} inside starts ends wave = record {
  due = omega (arith, wave.due, starts site inside);
  started = wave.started;
  once = wave.once;
  toppled = record { balance = λ j l. omega (arith, wave.toppled.balance j l, starts j l, ends j l) };
  others_rest = λ j l ne. omega (arith, wave.others_rest j l ne, ends j l);
  needed = λ w covers. wave.needed w (record {
    started = covers.started;
    at_most_three = λ j l ne. omega (arith, covers.at_most_three j l ne, starts j l);
  });
}

-- it is a legal sequence of topplings
one_underway : {g : Grid} {site : ℕ} {s u h v k : ℕ → ℕ} → site < sites g → IsUnderway g s u h → IsOneWave g site h v k
    → IsUnderway g s (λ j. u j + v j) k
one_underway {g} {site} {s} {u} {h} {v} {k} inside before wave = record {
  toppled = record {
    balance = λ j l. omega (arith, before.toppled.balance j l, wave.toppled.balance j l, flow-add g u v j);
  };
  bounded = λ w stable j l.
      let below = before.bounded w stable in
      let rest : Stabilises g h (λ i. w i - u i) = record {
        at_most_three = λ i m.
            let same = flow_same g (λ n. u n + (w n - u n)) w (λ n x. omega (arith, below n x)) i m in
            omega (
              arith,
              below i m,
              flow-add g u (λ n. w n - u n) i,
              stable.at_most_three i m,
              before.toppled.balance i m,
            );
      } in
      omega (arith, below j l, wave.needed (λ i. w i - u i) (covers_of site inside wave.due rest) j l);
}

-- what a wave topples covers the heights that it begins with
covers_itself : {g : Grid} {site : ℕ} {h v k : ℕ → ℕ} → IsOneWave g site h v k → Covers g site h v
covers_itself wave = record {
  started = omega (arith, wave.started);
  at_most_three = λ j l ne. omega (arith, wave.toppled.balance j l, wave.others_rest j l ne);
}

-- the heights determine the wave, and what it leaves
one_once : {g : Grid} {site : ℕ} {h v w k m : ℕ → ℕ} → IsOneWave g site h v k → IsOneWave g site h w m
    → (j : ℕ) → j < sites g → (v j ≡ w j) × (k j ≡ m j)
one_once {g} {site} {h} {v} {w} {k} {m} a b j l =
    let same : (i : ℕ) → i < sites g → v i ≡ w i =
    λ i n. omega (arith, a.needed w (covers_itself b) i n, b.needed v (covers_itself a) i n) in
    (same j l, omega (arith, same j l, flow_same g v w same j l, a.toppled.balance j l, b.toppled.balance j l))

-- ---- waves one after another

pub leads_same : (g : Grid) (site : ℕ) (h i k m : ℕ → ℕ) (sizes : List ℕ) → site < sites g
    → ((j : ℕ) → j < sites g → h j ≡ i j) → ((j : ℕ) → j < sites g → k j ≡ m j) → WavesLead g site h sizes k
    → WavesLead g site i sizes m
leads_same g site h i k m [] inside starts ends lead = λ j l. sym (ends j l) ∙ lead j l ∙ starts j l
leads_same g site h i k m (size ∷ sizes) inside starts ends (v, n, wave, is, rest) = (
  v,
  n,
  one_wave_same inside starts (λ j l. refl) wave,
  is,
  leads_same g site n n k m sizes inside (λ j l. refl) ends rest,
)

-- one more wave behind the others
leads_on : (g : Grid) (site : ℕ) (h k v m : ℕ → ℕ) (size : ℕ) (sizes : List ℕ) → site < sites g
    → WavesLead g site h sizes k → IsOneWave g site k v m → size ≡ topplings g v
    → WavesLead g site h (sizes ++ size ∷ []) m
leads_on g site h k v m size [] inside lead wave is =
    (v, m, one_wave_same inside lead (λ j l. refl) wave, is, λ j l. refl)
leads_on g site h k v m size (first ∷ sizes) inside (w, n, before, was, rest) wave is =
    (w, n, before, was, leads_on g site n k v m size sizes inside rest wave is)

plus : (a b c d n m l : ℕ) → a ≡ b + m → b ≡ c + d → n ≡ d → l ≡ n + m → a ≡ c + l
plus a b c d n m l x y z w = omega arith

-- the topplings so far: the dropped site has toppled once a wave
pub record AddUp (g : Grid) (site : ℕ) (s u k : ℕ → ℕ) (sizes : List ℕ) : Type 0 where
  pub all : ℕ → ℕ
  pub underway : IsUnderway g s all k
  pub once_a_wave : all site ≡ u site + length sizes
  pub sum_of_sizes : topplings g all ≡ topplings g u + sum sizes

pub leads_underway : (g : Grid) (site : ℕ) (s u h k : ℕ → ℕ) (sizes : List ℕ) → site < sites g → IsUnderway g s u h
    → WavesLead g site h sizes k → AddUp g site s u k sizes
leads_underway g site s u h k [] inside before lead = record {
  all = u;
  underway = record {
    toppled = record { balance = λ j l. omega (arith, before.toppled.balance j l, lead j l) };
    bounded = before.bounded;
  };
  once_a_wave = omega arith;
  sum_of_sizes = omega arith;
}
leads_underway g site s u h k (size ∷ sizes) inside before (v, n, wave, is, rest) =
    let next = leads_underway g site s (λ j. u j + v j) n k sizes inside
    (one_underway {g = g} inside before wave) rest in
    record {
      all = next.all;
      underway = next.underway;
      once_a_wave = omega (arith, next.once_a_wave, wave.started);
      sum_of_sizes = plus _ _ _ _ _ _ _ next.sum_of_sizes (sum_below-add (sites g) u v) is (sum_by-cons (λ n. n) size sizes);
    }

-- the waves of a drop topple what the drop topples: the dropped site once a wave, and their sizes add up
pub waves_add_up : (g : Grid) (site : ℕ) (h u k : ℕ → ℕ) (sizes : List ℕ) → site < sites g
    → WavesLead g site h sizes k → IsSettled g h u k → (length sizes ≡ u site) × (sum sizes ≡ topplings g u)
waves_add_up g site h u k sizes inside lead settled =
    let none = sum_below_none (sites g) (λ j. 0) (λ j l. refl) in
    let up = leads_underway g site h (λ j. 0) h k sizes inside (underway_start g h (λ j. 0) (λ j l. refl)) lead in
    let done = underway_end g h up.all k up.underway (λ j l. omega
    (arith, settled.toppled.balance j l, settled.odometer.stabilises.at_most_three j l)) in
    let same : (j : ℕ) → j < sites g → up.all j ≡ u j = λ j l. (settled_once g h up.all u k k done settled j l).0 in (
      omega (arith, same site inside, up.once_a_wave),
      omega (arith, sum_below_same (sites g) up.all u same, up.sum_of_sizes, none),
    )

-- the heights before determine the sizes
pub waves_once : (g : Grid) (site : ℕ) (h k m : ℕ → ℕ) (xs ys : List ℕ) → site < sites g → IsStable g k → IsStable g m
    → WavesLead g site h xs k → WavesLead g site h ys m → xs ≡ ys
waves_once g site h k m [] [] inside one other lead last = refl
waves_once g site h k m [] (y ∷ ys) inside one other lead (v, n, wave, is, rest) =
    absurd (omega (arith, wave.due, lead site inside, one.low site inside))
waves_once g site h k m (x ∷ xs) [] inside one other (v, n, wave, is, rest) last =
    absurd (omega (arith, wave.due, last site inside, other.low site inside))
waves_once g site h k m (x ∷ xs) (y ∷ ys) inside one other (v, n, wave, is, rest) (w, o, last, was, more) =
    let same = one_once wave last in
    ap₂ (λ z zs. z ∷ zs) (is ∙ sum_below_same (sites g) v w (λ j l. (same j l).0) ∙ sym was)
    (waves_once g site n k m xs ys inside one other rest
    (leads_same g site o n m m ys inside (λ j l. sym (same j l).1) (λ j l. refl) more))

-- ---- the list of sizes

written_none : (list : List ℕ) → AreWrittenTo [] list list
written_none list = record { len = refl; each = λ t l. absurd (omega arith); rest = λ t l. refl }

-- with room for all of them, they are the first numbers of the list
pub written_whole : {numbers before after : List ℕ} → AreWrittenTo numbers before after
    → length numbers ≤ length before → take (length numbers) after ≡ numbers
written_whole {numbers} {before} {after} written room =
    let long = length-take-le (length numbers) after (omega (arith, written.len)) in
    ext_get_or 0 (take (length numbers) after) numbers long
    (λ t l. get_or-take (length numbers) after t 0 (omega (arith, long, l))
    ∙ written.each t (omega (arith, long, l)) (omega (arith, long, l)))

pub has_none : {g : Grid} {site : ℕ} {h k : ℕ → ℕ} (list : List ℕ) → ((j : ℕ) → j < sites g → k j ≡ h j)
    → HasWaves g site h k 0 list list
has_none list same = record { sizes = []; lead = same; each = refl; written = written_none list }

at_end : (xs : List ℕ) (x t : ℕ) → (t < length xs → get_or (xs ++ x ∷ []) t 0 ≡ get_or xs t 0)
    × (t ≡ length xs → get_or (xs ++ x ∷ []) t 0 ≡ x)
at_end xs x t = (
  λ l. get_or_append_left xs (x ∷ []) 0 t l,
  λ e. let there : length xs + 0 ≡ t = omega arith in
      rw (sym there) (get_or-append-add xs (x ∷ []) 0 0),
)

pub has_more : {g : Grid} {site : ℕ} {h k v m : ℕ → ℕ} {number size : ℕ} {before after : List ℕ} → site < sites g
    → HasWaves g site h k number before after → IsOneWave g site k v m → size ≡ topplings g v
    → HasWaves g site h m (number + 1) before (slice_set after number size)
has_more {number = number} {size = size} {before = before} {after = after} inside has wave is =
    let xs = has.sizes in
    let long = length-append xs (size ∷ []) in
    let number_is = has.each in
    record {
      sizes = xs ++ size ∷ [];
      lead = leads_on _ _ _ _ _ _ _ xs inside has.lead wave is;
      each = omega arith;
      written = record {
        len = length-set after number size ∙ has.written.len;
        each = λ t l m. ⊎_elim
            (λ (e : t ≡ number). rw e (get_or-set_same after number size 0 (omega (arith, has.written.len, e, m))
            ∙ sym ((at_end xs size number).1 (omega arith))))
            (λ (ne : t ≡ number → ⊥). get_or-set_other after number t size 0 ne
            ∙ has.written.each t (omega (arith, ne, l)) m ∙ sym ((at_end xs size t).0 (omega (arith, ne, l))))
            (cases_eq t number);
        rest = λ t l. get_or-set_other after number t size 0 (λ e. absurd (omega (arith, e, l)))
            ∙ has.written.rest t (omega (arith, l));
      };
    }

pub has_same : {g : Grid} {site number : ℕ} {h i k m : ℕ → ℕ} {before after : List ℕ} → site < sites g
    → ((j : ℕ) → j < sites g → h j ≡ i j) → ((j : ℕ) → j < sites g → k j ≡ m j)
    → HasWaves g site h k number before after → HasWaves g site i m number before after
has_same inside starts ends has = record {
  sizes = has.sizes;
  lead = leads_same _ _ _ _ _ _ has.sizes inside starts ends has.lead;
  each = has.each;
  written = has.written;
}
