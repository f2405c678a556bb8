use Rattle.sand_lab.proofs.Common.{List, [], ◌∷◌, ◌++◌, ap, ◌∙◌, subst, RecordView, IsBoth, ReportView, SheetView}
use Rattle.sand_lab.proofs.report.Report.add.Goals as goal

pub returns-clause-grown : goal.returns-clause-grown
returns-clause-grown c = record {
  records = c.push_reserved.ensures.items ∙ ap (λ (rs : List RecordView). rs ++ c.args.closed ∷ [])
      (c.reserve_one.ensures.records ∙ ap (λ (p : ReportView). p.records) c.self.view_is);
  sheets = c.push_reserved-2.ensures.items ∙ ap (λ (ss : List SheetView). ss ++ c.args.sheet ∷ [])
      (c.reserve_one.ensures.sheets ∙ ap (λ (p : ReportView). p.sheets) c.self.view_is);
  total = subst (λ (p : ReportView). IsBoth p.total c.args.closed c.append.new.total) c.self.view_is
      c.in_ok-append.ensures.both;
}
