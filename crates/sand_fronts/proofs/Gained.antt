-- Grains added to one tile of a list, and to one after another.
use Rattle.sand_fronts.proofs.Common.{ℕ, List, cond, eqb, get_or, ◌≡◌, ◌+◌, ◌%◌, ◌^◌, ◌<◌, ◌≤◌, length, refl, sym, ◌∙◌, ap, subst, arith, ⊎_elim, set, cases_eq, eq-eqb, ne_eqb, get_or-set_same, get_or-set_other, get_or_read, same_from_bits_below, bit_at-zero, Tile, height, had, Receives, cut, tile_at, only, Gains}
use Rattle.sand_tiles.specs.Places.{bit}
use Rattle.sand_fronts.proofs.Waves.{only_same, only_other}
use Rattle.sand_fronts.proofs.OnTiles.{height_low}

abbrev pub blank : Tile
blank = record { low = 0; high = 0; due = 0; wave = 0 }

-- a set without places
pub no_place : (a : ℕ) → ((p : ℕ) → p < 64 → bit a p ≡ 0) → a % 2 ^ 64 ≡ 0
unfolding bit
no_place a none =
    same_from_bits_below 64 (a % 2 ^ 64) 0 (omega arith) (omega arith)
    (λ p low. cut a p low ∙ none p low ∙ sym (bit_at-zero p))

-- a tile that is read
pub tile_read : (ts : List Tile) (k : ℕ) (x : Tile) → k < length ts → x ≡ get_or ts k x → x ≡ tile_at ts k
tile_read ts k x inside read = get_or_read ts k x inside read blank

-- what holds of f at the number where it changes, and at each other one, holds at all
pub changed_each : {A : Type 0} (P : ℕ → A → Type 0) (f h : ℕ → A) (k : ℕ) → P k (h k)
    → ((m : ℕ) → (m ≡ k → ⊥) → h m ≡ f m) → ((m : ℕ) → (m ≡ k → ⊥) → P m (f m)) → (m : ℕ) → P m (h m)
changed_each P f h k here same others m = ⊎_elim
    (λ (e : m ≡ k). subst (λ i. P i (h i)) (sym e) here)
    (λ (ne : m ≡ k → ⊥). subst (P m) (sym (same m ne)) (others m ne))
    (cases_eq m k)

-- the same for a list in which one entry is written
pub set_each : {A : Type 0} (d : A) (P : ℕ → A → Type 0) (xs : List A) (k : ℕ) (x : A) → k < length xs → P k x
    → ((m : ℕ) → (m ≡ k → ⊥) → P m (get_or xs m d)) → (m : ℕ) → P m (get_or (set xs k x) m d)
set_each d P xs k x inside here others = changed_each P (λ m. get_or xs m d) (λ m. get_or (set xs k x) m d) k
    (subst (P k) (sym (get_or-set_same xs k x d inside)) here) (λ m ne. get_or-set_other xs k m x d ne) others

pub cond_each : {A : Type 0} (P : ℕ → A → Type 0) (f : ℕ → A) (k : ℕ) (x : A) → P k x
    → ((m : ℕ) → (m ≡ k → ⊥) → P m (f m)) → (m : ℕ) → P m (cond (eqb m k) x (f m))
cond_each P f k x here others = changed_each P f (λ m. cond (eqb m k) x (f m)) k
    (subst (P k) (sym (ap (λ c. cond c x (f k)) (eq-eqb k k refl))) here)
    (λ m ne. ap (λ c. cond c x (f m)) (ne_eqb m k ne)) others

-- the same for tiles
pub tile_set : (P : ℕ → Tile → Type 0) (ts : List Tile) (k : ℕ) (t : Tile) → k < length ts → P k t
    → ((m : ℕ) → (m ≡ k → ⊥) → P m (tile_at ts m)) → (m : ℕ) → P m (tile_at (set ts k t) m)
tile_set P ts k t inside here others = set_each blank P ts k t inside here others

pub gains_one : (free : ℕ → ℕ) (ts : List Tile) (k : ℕ) (t : Tile) (gain : ℕ) → k < length ts
    → Receives (tile_at ts k) t gain (free k)
    → Gains free (tile_at ts) (tile_at (set ts k t)) (only k (bit gain))
gains_one free ts k t gain inside receives =
    let all = tile_set (λ m x. (p : ℕ) → p < 64 → (bit x.wave p ≡ bit (tile_at ts m).wave p)
    × (bit (free m) p ≡ 1 → had (tile_at ts m) p + only k (bit gain) m p ≤ 7
    → had x p ≡ had (tile_at ts m) p + only k (bit gain) m p)
    × (height x p ≡ (height (tile_at ts m) p + only k (bit gain) m p) % 4))
    ts k t inside
    (λ p low.
    let c = only_same k k (bit gain) p refl in
    let r = receives.modulo p low in (
      ap (λ w. bit w p) receives.wave,
      λ is few. (let e = receives.each p low is (omega arith) in omega arith),
      omega arith,
    ))
    (λ m ne p low.
    let c = only_other k m (bit gain) p ne in
    let l = height_low (tile_at ts m) p in
    (refl, λ is few. omega arith, omega arith)) in
    record {
      wave = λ m p low. (all m p low).0;
      due_free = λ before. tile_set (λ m x. (p : ℕ) → p < 64 → bit x.due p ≤ bit (free m) p) ts k t inside
          (λ p low. receives.due_free p low (before k p low)) (λ m ne. before m);
      each = λ m p low. (all m p low).1;
      modulo = λ m p low. (all m p low).2;
    }

pub gains_from : {free : ℕ → ℕ} {τ τ' σ : ℕ → Tile} {a : ℕ → ℕ → ℕ} → ((m : ℕ) → τ m ≡ τ' m) → Gains free τ σ a
    → Gains free τ' σ a
gains_from same gains = record {
  wave = λ m p low. gains.wave m p low ∙ ap (λ x. bit x.wave p) (same m);
  due_free = λ before. gains.due_free
      (λ m p low. let e = ap (λ x. bit x.due p) (same m) in let b = before m p low in omega arith);
  each = λ m p low is few.
      let e = ap (λ x. had x p) (same m) in let g = gains.each m p low is (omega arith) in omega arith;
  modulo = λ m p low. let e = ap (λ x. height x p) (same m) in let g = gains.modulo m p low in omega arith;
}

pub written : (ts : List Tile) (k m : ℕ) (t : Tile) → k < length ts
    → tile_at (set ts k t) m ≡ cond (eqb m k) t (tile_at ts m)
written ts k m t inside =
    tile_set (λ i x. x ≡ cond (eqb i k) t (tile_at ts i)) ts k t inside
    (sym (ap (λ b. cond b t (tile_at ts k)) (eq-eqb k k refl)))
    (λ i ne. sym (ap (λ b. cond b t (tile_at ts i)) (ne_eqb i k ne))) m
