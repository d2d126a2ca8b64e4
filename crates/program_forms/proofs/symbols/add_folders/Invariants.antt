use Rattle.std.proofs.Common.{◌≡◌, ◌++◌, map, drop}
use Rattle.core_terms.specs.Lists.{folders_view}
use Rattle.core_terms.specs.View.{folder_view}
use Rattle.core_typing.specs.Scopes.{folder_kinds}
use Rattle.program_forms.proofs.symbols.add_folders.Given as goal

abbrev pub invariant-loop-i : goal.invariant-loop-i
invariant-loop-i l =
    l.symbols.items ++ map (λ k. k.0) (folder_kinds (map folder_view (drop l.i l.fs.items.items))) ≡ l.initial.symbols.items ++ map (λ k. k.0) (folder_kinds (folders_view l.fs))
