-- Numbers that join a list when they begin to pass a test.
use Rattle.sand_model.proofs.Common.{ℕ, Bool, true, false, cond, not, ◌&&◌, List, [], ◌∷◌, ◌++◌, ◌≡◌, ◌≢◌, ◌+◌, ◌<◌, ◌≤◌, length, drop, get_or, append_assoc, length-append, refl, sym, ◌∙◌, ap, subst, arith, inl, inr, cases_Bool, cases_eq, append-nil, drop-append-le, get_or_append_left, Lists}
use Rattle.sand_model.specs.IndexLists.{ListView, Joins}
use Rattle.sand_model.proofs.Lists.{lists_push, lists_same}

-- ---- one number

pub queued : {n : ℕ} {p q : ℕ → Bool} {k : ℕ} {joins : Bool} (list : List ℕ) → k < n
    → ((j : ℕ) → j < n → j ≢ k → p j ≡ q j) → (p k ≡ true → q k ≡ true) → joins ≡ (not (p k) && q k)
    → Lists n p list → Lists n q (cond joins (list ++ k ∷ []) list)
queued {n} {p} {q} {k} {joins} list inside others keeps is all =
    let was = cases_Bool (p k) in
    let now = cases_Bool (q k) in
    elim (cases_Bool joins) [
      | inl joined ↦ rw joined (lists_push n p q list k all inside (grind arith) (grind arith) others)
      | inr kept ↦ rw kept (lists_same n p q list (λ j l. grind (arith, others j l, cases_eq j k)) all)
    ]

at_end : (joins : Bool) (list : List ℕ) (k : ℕ) → cond joins (list ++ k ∷ []) list ≡ list ++ cond joins (k ∷ []) []
at_end true list k = refl
at_end false list k = sym (append-nil list)

one_more : (joins : Bool) (list : List ℕ) (k : ℕ) → length (cond joins (list ++ k ∷ []) list) ≤ length list + 1
one_more true list k = let e = length-append list (k ∷ []) in omega arith
one_more false list k = omega arith

-- a number joins if it begins to pass
pub joins_if : {n : ℕ} {p q : ℕ → Bool} {k : ℕ} {joins : Bool} {l m : ListView} → k < n
    → ((j : ℕ) → j < n → j ≢ k → p j ≡ q j) → (p k ≡ true → q k ≡ true) → joins ≡ (not (p k) && q k)
    → m ≡ record l { items = cond joins (l.items ++ k ∷ []) l.items } → Joins n 1 p q l m
joins_if {n} {p} {q} {k} {joins} {l} {m} inside others keeps is now = record {
  new = cond joins (k ∷ []) [];
  items = ap (λ (v : ListView). v.items) now ∙ at_end joins l.items k;
  bound = let e = ap (λ (v : ListView). length v.items) now in let more = one_more joins l.items k in omega arith;
  room = ap (λ (v : ListView). v.room) now;
  waiting = λ list all.
      subst (Lists n q) (at_end joins list k) (queued {p = p} {q = q} list inside others keeps is all);
}

-- ---- more than one

pub joins_more : {n a b : ℕ} {p q r : ℕ → Bool} {k l m : ListView} → Joins n a p q k l → Joins n b q r l m
    → Joins n (a + b) p r k m
joins_more {n} {a} {b} {p} {q} {r} {k} {l} {m} first second = record {
  new = first.new ++ second.new;
  items = second.items ∙ ap (λ xs. xs ++ second.new) first.items ∙ append_assoc k.items first.new second.new;
  bound = let one = first.bound in let two = second.bound in omega arith;
  room = second.room ∙ first.room;
  waiting = λ list all. subst (Lists n r) (append_assoc list first.new second.new)
      (second.waiting (list ++ first.new) (first.waiting list all));
}

pub joins_from : {n a : ℕ} {p p' q : ℕ → Bool} {l m : ListView} → ((j : ℕ) → j < n → p j ≡ p' j) → Joins n a p' q l m
    → Joins n a p q l m
joins_from {n} {a} {p} {p'} {q} {l} {m} same joins = record {
  new = joins.new;
  items = joins.items;
  bound = joins.bound;
  room = joins.room;
  waiting = λ list all. joins.waiting list (lists_same n p p' list same all);
}

-- ---- what the list is then

pub longer : {n a : ℕ} {p q : ℕ → Bool} {l m : ListView} → Joins n a p q l m → length l.items ≤ length m.items
longer {l = l} joins = let e = ap length joins.items ∙ length-append l.items joins.new in omega arith

pub kept_before : {n a : ℕ} {p q : ℕ → Bool} {l m : ListView} → Joins n a p q l m → (t : ℕ) → t < length l.items
    → get_or m.items t 0 ≡ get_or l.items t 0
kept_before {l = l} joins t less = ap (λ xs. get_or xs t 0) joins.items ∙ get_or_append_left l.items joins.new 0 t less

-- from one position on
pub waiting_from : {n a : ℕ} {p q : ℕ → Bool} {l m : ListView} → Joins n a p q l m → (position : ℕ)
    → position ≤ length l.items → Lists n p (drop position l.items) → Lists n q (drop position m.items)
waiting_from {n} {q = q} {l = l} joins position within all =
    subst (Lists n q) (sym (ap (drop position) joins.items ∙ drop-append-le position l.items joins.new within))
    (joins.waiting (drop position l.items) all)

-- behind those of another list
pub waiting_behind : {n a : ℕ} {p q : ℕ → Bool} {l m : ListView} → Joins n a p q l m → (front : List ℕ)
    → Lists n p (front ++ l.items) → Lists n q (front ++ m.items)
waiting_behind {n} {q = q} {l = l} joins front all =
    subst (Lists n q) (append_assoc front l.items joins.new ∙ ap (λ xs. front ++ xs) (sym joins.items))
    (joins.waiting (front ++ l.items) all)
