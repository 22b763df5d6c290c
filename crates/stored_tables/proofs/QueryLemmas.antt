-- What a query of one table shows of it.
use Rattle.std.proofs.Common.{◌≡◌, ℕ, pos, List, [], ◌∷◌, map, false, None, ap, subst, ◌∙◌, Less, IsPermutation}
use Rattle.std.specs.List.Sorted.{IsSorted}
use Rattle.std.specs.Cmp.{on_total}
use Rattle.std.specs.List.{flat_map}
use Rattle.std.proofs.lemmas.List.Concat.{flat_map_single}
use Rattle.std.proofs.lemmas.List.Sorted.{IsPermutation-map, IsPermutation-sym, IsPermutation-trans}
use Rattle.sqlite.specs.declared.types.Value.TheVariants.{Int}
use Rattle.sqlite.specs.Order.{Row}
use Rattle.sqlite.specs.Term.{Term, lit, eval_all}
use Rattle.sqlite.specs.Query.{Query, IsAnswer, Output, output, output_cmp, page, inner, end}
use Rattle.sqlite.specs.Program.{overlay}
use Rattle.sqlite.specs.Tree.{Trees, IsAscending}
use Rattle.sqlite_value.specs.declared.keys.Key.{Key}
use Rattle.sqlite_sql.proofs.QueryLemmas.{key_cmp_total}
use Rattle.sqlite_keyed.proofs.ListLemmas.{map-map, ascending-map}
use Rattle.sqlite_keyed.proofs.SortLemmas.{sorted_unique}

abbrev pub of_table : ℕ → List Term → List (Term × Key) → Term → Query
of_table t project order limit = record {
  from = inner t end;
  filter = [];
  group = None;
  project = project;
  distinct = false;
  collations = [];
  order = order;
  limit = limit;
  offset = lit (Int (pos 0));
}

module _ (t : ℕ) (project : List Term) (order : List (Term × Key)) (limit : Term) where
  abbrev q : Query
  q = of_table t project order limit

  abbrev pub keyed : Row → Output
  keyed row = output q ([] ∷ row ∷ [])

  abbrev pub shown : Row → Row
  shown row = eval_all project ([] ∷ row ∷ [])

  -- the rows of the table in some order that ORDER BY allows, up to LIMIT
  pub record Asked (db : Trees) (rows : List Row) : Type 0 where
    pub ordered : List Output
    pub same : IsPermutation (map keyed (db t)) ordered
    pub sorted : IsSorted (output_cmp q) ordered
    pub shown_is : rows ≡ page q [] (map (λ (o : Output). o.1) ordered)

  pub asked : (db : Trees) (rows : List Row) → overlay db [] t ≡ db t → IsAnswer q (overlay db []) [] rows → Asked db rows
  asked db rows at a =
      let staged : a.staged ≡ map (λ r. [] ∷ r ∷ []) (db t) = a.grouped ∙ (ap (flat_map (λ (r : Row). ([] ∷ r ∷ []) ∷ [])) at ∙ flat_map_single (λ (r : Row). [] ∷ r ∷ []) (db t)) in
      let all : a.kept ≡ map keyed (db t) = a.distinct ∙ (ap (map (output q)) staged ∙ map-map (output q) (λ r. [] ∷ r ∷ []) (db t)) in
      record { ordered = a.ordered; same = subst (λ k. IsPermutation k a.ordered) all a.same; sorted = a.sorted; shown_is = a.shown }

  -- the rows of the table in this order, where no two of them tie
  pub in_order : (db : Trees) (rows in_turn : List Row) → IsPermutation (db t) in_turn → IsAscending (λ x y. output_cmp q (keyed x) (keyed y) ≡ Less) in_turn → Asked db rows → rows ≡ page q [] (map shown in_turn)
  in_order db rows in_turn turn up it =
      let total = on_total (λ (o : Output). o.0) (key_cmp_total (map (λ k. k.1) order) 0) in
      let strict = ascending-map (λ (x y : Output). output_cmp q x y ≡ Less) keyed in_turn up in
      let there = IsPermutation-trans (map keyed in_turn) (map keyed (db t)) it.ordered (IsPermutation-sym _ _ (IsPermutation-map keyed (db t) in_turn turn)) it.same in
      let ordered = sorted_unique (output_cmp q) total (map keyed in_turn) it.ordered strict there it.sorted in
      it.shown_is ∙ (ap (λ xs. page q [] (map (λ (o : Output). o.1) xs)) ordered ∙ ap (page q []) (map-map (λ (o : Output). o.1) keyed in_turn))
