mod SummaryRows
