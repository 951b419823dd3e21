-- Trees whose links share no target have no node in common, and no node twice.
use Rattle.image_check.proofs.Common.{Field, List, Tree, [], ap, arith, fork, leaf, map, nodes_of, refl, subst, sym, ℕ}
use Rattle.image_check.proofs.Common.{◌%◌, ◌++◌, ◌+◌, ◌∙◌, ◌∷◌, ◌≡◌}
use Rattle.image_check.proofs.bytes.Members.{Mem, mem_left, mem_map, mem_of_map, mem_parts, mem_right}
use Rattle.image_check.proofs.claims.ReachedLinks.{field}
use Rattle.image_check.proofs.indexes.Entries.{Distinct, distinct-append}
use Rattle.image_check.proofs.claims.Fields.{target_in, tree-targets, tree_claims}
use mathlib.Core.Logic.{◌⊎◌, inl, inr}

-- no two of these fields share a target
pub record Unshared (K : Field → Type 0) : Type 0 where
  pub one : (f g : Field) → K f → K g → f.target ≡ g.target → f.at ≡ g.at

-- the offset is one of the two links of a node of the list
pub record IsBelow (ns : List ℕ) (x : ℕ) : Type 0 where
  pub node : ℕ
  pub mem : Mem node ns
  pub is : (x ≡ node) ⊎ (x ≡ node + 8)

below-left : (xs : List ℕ) (n : ℕ) (ys : List ℕ) (x : ℕ) → IsBelow xs x → IsBelow (xs ++ n ∷ ys) x
below-left xs n ys x b = record { node = b.node; mem = mem_left b.node xs (n ∷ ys) b.mem; is = b.is }

below-right : (xs : List ℕ) (n : ℕ) (ys : List ℕ) (x : ℕ) → IsBelow ys x → IsBelow (xs ++ n ∷ ys) x
below-right xs n ys x b = record { node = b.node; mem = mem_right b.node xs (n ∷ ys) (inr b.mem); is = b.is }

middle : (xs : List ℕ) (n : ℕ) (ys : List ℕ) → Mem n (xs ++ n ∷ ys)
middle xs n ys = mem_right n xs (n ∷ ys) (inl refl)

-- a link of a tree is its root link, or is in one of its nodes
pub tree-at : (a : ℕ) (t : Tree) (g : Field) → Mem g (tree_claims a t) → (g.at ≡ a) ⊎ IsBelow (nodes_of t) g.at
tree-at a leaf g k = absurd k
tree-at a (fork red l n r) g k = elim (mem_parts g (tree_claims n l) (field a n ∷ tree_claims (n + 8) r) k) [
  | inl h ↦ elim (tree-at n l g h) [
    | inl e ↦ inr (record { node = n; mem = middle (nodes_of l) n (nodes_of r); is = inl e })
    | inr b ↦ inr (below-left (nodes_of l) n (nodes_of r) g.at b)
  ]
  | inr (inl e) ↦ inl (ap (λ (f : Field). f.at) e)
  | inr (inr h) ↦ elim (tree-at (n + 8) r g h) [
    | inl e ↦ inr (record { node = n; mem = middle (nodes_of l) n (nodes_of r); is = inr e })
    | inr b ↦ inr (below-right (nodes_of l) n (nodes_of r) g.at b)
  ]
]

-- the nodes are multiples of 16
pub record AreAligned (ns : List ℕ) : Type 0 where
  pub at : (n : ℕ) → Mem n ns → n % 16 ≡ 0

-- the offset differs from both links of each node
pub record NotBelow (a : ℕ) (ns : List ℕ) : Type 0 where
  pub first : (n : ℕ) → Mem n ns → a ≡ n → ⊥
  pub second : (n : ℕ) → Mem n ns → a ≡ n + 8 → ⊥

not-below : (a : ℕ) (ns : List ℕ) (x : ℕ) → NotBelow a ns → a ≡ x → IsBelow ns x → ⊥
not-below a ns x h e b = elim b.is [ inl f ↦ h.first b.node b.mem (e ∙ f) | inr f ↦ h.second b.node b.mem (e ∙ f) ]

aligned-left : (xs : List ℕ) (n : ℕ) (ys : List ℕ) → AreAligned (xs ++ n ∷ ys) → AreAligned xs
aligned-left xs n ys h = record { at = λ k l. h.at k (mem_left k xs (n ∷ ys) l) }

aligned-right : (xs : List ℕ) (n : ℕ) (ys : List ℕ) → AreAligned (xs ++ n ∷ ys) → AreAligned ys
aligned-right xs n ys h = record { at = λ k l. h.at k (mem_right k xs (n ∷ ys) (inr l)) }

not_below-left : (a : ℕ) (xs : List ℕ) (n : ℕ) (ys : List ℕ) → NotBelow a (xs ++ n ∷ ys) → NotBelow a xs
not_below-left a xs n ys h = record {
  first = λ k l. h.first k (mem_left k xs (n ∷ ys) l);
  second = λ k l. h.second k (mem_left k xs (n ∷ ys) l);
}

not_below-right : (a : ℕ) (xs : List ℕ) (n : ℕ) (ys : List ℕ) → NotBelow a (xs ++ n ∷ ys) → NotBelow a ys
not_below-right a xs n ys h = record {
  first = λ k l. h.first k (mem_right k xs (n ∷ ys) (inr l));
  second = λ k l. h.second k (mem_right k xs (n ∷ ys) (inr l));
}

-- the two links of a node that is not among these
node-not_below : (n : ℕ) (ns : List ℕ) → n % 16 ≡ 0 → AreAligned ns → (Mem n ns → ⊥) → NotBelow n ns
node-not_below n ns e h k = record {
  first = λ x l f. k (subst (λ y. Mem y ns) (sym f) l);
  second = λ x l f. (let g = h.at x l in omega arith);
}

behind-not_below : (n : ℕ) (ns : List ℕ) → n % 16 ≡ 0 → AreAligned ns → (Mem n ns → ⊥) → NotBelow (n + 8) ns
behind-not_below n ns e h k = record {
  first = λ x l f. (let g = h.at x l in omega arith);
  second = λ x l f. (let same : n ≡ x = omega arith in k (subst (λ y. Mem y ns) (sym same) l));
}

-- a node of a tree is led to by one of its links
led : (a : ℕ) (t : Tree) (n : ℕ) → Mem n (nodes_of t) → (g : Field) × Mem g (tree_claims a t) × (n ≡ g.target)
led a t n k =
    let i = mem_of_map target_in n (tree_claims a t) (subst (Mem n) (sym (tree-targets a t)) k) in
    (i.one, i.mem, i.is)

-- only the links of a tree lead to its nodes
root-apart : (K : Field → Type 0) → Unshared K → (a n b : ℕ) (t : Tree) → K (field a n)
    → ((f : Field) → Mem f (tree_claims b t) → K f) → (a ≡ b → ⊥) → NotBelow a (nodes_of t) → Mem n (nodes_of t) → ⊥
root-apart K u a n b t k c d h l =
    let g = led b t n l in
    let e : a ≡ (g.0).at = u.one (field a n) g.0 k (c g.0 g.1) g.2 in
    elim (tree-at b t g.0 g.1) [ inl f ↦ d (e ∙ f) | inr f ↦ not-below a (nodes_of t) (g.0).at h e f ]

-- two trees that begin at different places have no node in common
pub two-trees : (K : Field → Type 0) → Unshared K → (a : ℕ) (s : Tree) (b : ℕ) (t : Tree)
    → ((f : Field) → Mem f (tree_claims a s) → K f) → ((f : Field) → Mem f (tree_claims b t) → K f)
    → AreAligned (nodes_of s) → AreAligned (nodes_of t) → (a ≡ b → ⊥) → NotBelow a (nodes_of t)
    → NotBelow b (nodes_of s) → (x : ℕ) → Mem x (nodes_of s) → Mem x (nodes_of t) → ⊥
two-trees K u a leaf b t c d p q n h k x l w = absurd l
two-trees K u a (fork red lt n rt) b t c d p q ne h k x l w =
    let apart : Mem n (nodes_of t) → ⊥ =
    root-apart K u a n b t (c (field a n)
    (mem_right (field a n) (tree_claims n lt) (field a n ∷ tree_claims (n + 8) rt) (inl refl))) d ne h in
    let here = middle (nodes_of lt) n (nodes_of rt) in
    let even = p.at n here in
    elim (mem_parts x (nodes_of lt) (n ∷ nodes_of rt) l) [
      | inl y ↦
          two-trees K u n lt b t (λ f z. c f (mem_left f (tree_claims n lt) (field a n ∷ tree_claims (n + 8) rt) z))
          d (aligned-left (nodes_of lt) n (nodes_of rt) p) q
          (λ e. k.first n here (sym e)) (node-not_below n (nodes_of t) even q apart)
          (not_below-left b (nodes_of lt) n (nodes_of rt) k) x y w
      | inr (inl e) ↦ apart (subst (λ z. Mem z (nodes_of t)) e w)
      | inr (inr y) ↦
          two-trees K u (n + 8) rt b t (λ f z.
          c f (mem_right f (tree_claims n lt) (field a n ∷ tree_claims (n + 8) rt) (inr z))) d
          (aligned-right (nodes_of lt) n (nodes_of rt) p) q
          (λ e. k.second n here (sym e)) (behind-not_below n (nodes_of t) even q apart)
          (not_below-right b (nodes_of lt) n (nodes_of rt) k) x y w
    ]

-- no node is twice in a tree
pub one-tree : (K : Field → Type 0) → Unshared K → (a : ℕ) (t : Tree)
    → ((f : Field) → Mem f (tree_claims a t) → K f) → AreAligned (nodes_of t) → NotBelow a (nodes_of t)
    → Distinct (nodes_of t)
one-tree K u a leaf c p h = tt
one-tree K u a (fork red l n r) c p h =
    let here = middle (nodes_of l) n (nodes_of r) in
    let even = p.at n here in
    let root : K (field a n) = c (field a n)
    (mem_right (field a n) (tree_claims n l) (field a n ∷ tree_claims (n + 8) r) (inl refl)) in
    let cl : (f : Field) → Mem f (tree_claims n l) → K f =
    λ f z. c f (mem_left f (tree_claims n l) (field a n ∷ tree_claims (n + 8) r) z) in
    let cr : (f : Field) → Mem f (tree_claims (n + 8) r) → K f =
    λ f z. c f (mem_right f (tree_claims n l) (field a n ∷ tree_claims (n + 8) r) (inr z)) in
    let pl = aligned-left (nodes_of l) n (nodes_of r) p in
    let pr = aligned-right (nodes_of l) n (nodes_of r) p in
    let nl : Mem n (nodes_of l) → ⊥ =
    root-apart K u a n n l root cl (h.first n here) (not_below-left a (nodes_of l) n (nodes_of r) h) in
    let nr : Mem n (nodes_of r) → ⊥ =
    root-apart K u a n (n + 8) r root cr (h.second n here) (not_below-right a (nodes_of l) n (nodes_of r) h) in
    let dl = one-tree K u n l cl pl (node-not_below n (nodes_of l) even pl nl) in
    let dr = one-tree K u (n + 8) r cr pr (behind-not_below n (nodes_of r) even pr nr) in
    let differ : n ≡ n + 8 → ⊥ = λ e. omega arith in
    distinct-append (nodes_of l) (n ∷ nodes_of r) dl ((λ y k e. nr (subst (λ z. Mem z (nodes_of r)) (sym e) k)), dr)
    (λ x y k w e. elim w [
      | inl f ↦ nl (subst (λ z. Mem z (nodes_of l)) (e ∙ f) k)
      | inr v ↦
          two-trees K u n l (n + 8) r cl cr pl pr differ (node-not_below n (nodes_of r) even pr nr)
          (behind-not_below n (nodes_of l) even pl nl) x k (subst (λ z. Mem z (nodes_of r)) (sym e) v)
    ])

-- ---- fields at different offsets lead to different targets

-- so the targets of fields at different offsets differ
pub targets-distinct : (K : Field → Type 0) → Unshared K → (fs : List Field) → ((f : Field) → Mem f fs → K f)
    → Distinct (map (λ (f : Field). f.at) fs) → Distinct (map target_in fs)
targets-distinct K u [] c d = tt
targets-distinct K u (f ∷ fs) c d = (
  λ y k e.
      let i = mem_of_map target_in y fs k in
      d.0 (i.one).at (mem_map (λ (g : Field). g.at) i.one fs i.mem)
      (u.one f i.one (c f (inl refl)) (c i.one (inr i.mem)) (e ∙ i.is)),
  targets-distinct K u fs (λ g k. c g (inr k)) d.1,
)
