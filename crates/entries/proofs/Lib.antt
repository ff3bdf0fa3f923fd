mod FixCases
